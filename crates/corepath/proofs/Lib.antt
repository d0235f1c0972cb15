pub mod StepLemmas
pub mod PassLemmas
pub mod Samples
