pub mod Values
pub mod Solo
pub mod Code
pub mod Items
pub mod Fits
