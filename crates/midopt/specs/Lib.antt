pub mod Weighed
pub mod Better
pub mod Tidy
pub mod Marks
pub mod Search
