pub mod FieldLaws
pub mod LoopLaws
pub mod TableLaws
