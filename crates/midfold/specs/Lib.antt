pub mod Numbers
pub mod Folding
pub mod Uses
