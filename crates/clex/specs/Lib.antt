pub mod Bytes
pub mod Numbers
pub mod Spelling
pub mod Span
pub mod Pieces
pub mod Text
pub mod Reading
pub mod Given
