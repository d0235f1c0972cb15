pub mod Cuts
pub mod EventLaws
pub mod FileLaws
