pub mod Flow
pub mod Loops
pub mod Path
pub mod Cause
pub mod Certificate
pub mod Pass
