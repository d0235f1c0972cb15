pub mod Bare
pub mod Cause
pub mod Keyword
pub mod Levels
pub mod Punctuator
pub mod Span
pub mod Table
pub mod Tree
