pub mod Arithmetic
pub mod Content
pub mod Layout
pub mod Scalar
pub mod Value
