pub mod ActLaws
pub mod FormLaws
pub mod LineLaws
pub mod NumberLaws
pub mod OrderLaws
pub mod ScriptLaws
