pub mod Field
pub mod File
pub mod Header
pub mod Record
pub mod Rela
pub mod Section
pub mod Segment
pub mod Symbol
