pub mod Images
pub mod Loop
