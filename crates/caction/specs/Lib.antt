pub mod Forms
pub mod Make
