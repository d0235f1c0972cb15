pub mod Base
pub mod Constant
pub mod Convert
pub mod Room
pub mod Round
pub mod Shape
