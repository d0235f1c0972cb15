pub mod Kinds
pub mod Order
pub mod Signature
pub mod Meaning
pub mod Else
pub mod Kept
