mod Looks
mod Rows
mod Steps
mod Splits
mod Complete
mod Sound
mod Built
mod Values
pub mod Reading
