pub mod Loops
pub mod Path
pub mod Table
pub mod Order
pub mod Joining
