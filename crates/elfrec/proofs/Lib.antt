pub mod Bytes
pub mod Files
pub mod Loop
pub mod Numbers
pub mod Placing
pub mod Records
pub mod Stands
