pub mod Access
pub mod Datum
pub mod Expression
pub mod Meaning
pub mod Outcome
pub mod Pointer
pub mod State
pub mod Statement
