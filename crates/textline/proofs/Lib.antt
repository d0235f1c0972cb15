pub mod DecimalLaws
pub mod HexLaws
pub mod HexText
pub mod Printed
pub mod SplitLaws
