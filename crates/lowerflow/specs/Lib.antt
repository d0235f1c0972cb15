pub mod Claims
pub mod Code
pub mod Codes
pub mod Goes
pub mod Laws
pub mod Nodes
pub mod Typed
