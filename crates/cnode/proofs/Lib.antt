pub mod Bareness
