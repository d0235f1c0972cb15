pub mod Homes
pub mod Span
pub mod Allocation
pub mod Listed
pub mod Bytes
pub mod Scan
