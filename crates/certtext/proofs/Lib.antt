pub mod FieldLaws
pub mod FileLaws
pub mod OrderLaws
pub mod PrintLaws
pub mod WholeLaws
