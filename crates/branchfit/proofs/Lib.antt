pub mod FarLemmas
pub mod FitLemmas
pub mod LayLemmas
pub mod PlaceLemmas
pub mod StepLemmas
