mod Longer
mod Rows
pub mod Steady
pub mod SteadyAccess
pub mod SteadyExpression
pub mod SteadyStatement
