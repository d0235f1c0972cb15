pub mod EventLines
pub mod Exact
pub mod Reading
pub mod Sections
pub mod Text
