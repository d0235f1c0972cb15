pub mod Windows
