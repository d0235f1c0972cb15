pub mod Certs
pub mod Fields
pub mod Files
pub mod Order
pub mod Reading
pub mod Texts
