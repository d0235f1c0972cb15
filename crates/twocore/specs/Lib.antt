pub mod Memory
pub mod World
pub mod Word
pub mod Machine
pub mod Views
pub mod Alone
pub mod Stamps
