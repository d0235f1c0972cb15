pub mod Register
pub mod Controller
pub mod HostBits
pub mod Ports
