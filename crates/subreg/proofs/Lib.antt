pub mod Elements
pub mod Fields
pub mod FirstHomes
pub mod Given
pub mod Placed
pub mod Spans
pub mod Together
pub mod Whole
