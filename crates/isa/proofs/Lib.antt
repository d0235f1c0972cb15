pub mod Formats
pub mod Judged
pub mod Operands
pub mod Ranged
pub mod WholeWords
pub mod Wholeness
