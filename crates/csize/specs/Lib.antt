pub mod Elements
pub mod Size
