pub mod Bodies
pub mod Numbers
pub mod Runs
pub mod Shapes
pub mod Paths
