pub mod Form
pub mod Piece
pub mod Asks
pub mod Splitting
pub mod Given
pub mod Modes
