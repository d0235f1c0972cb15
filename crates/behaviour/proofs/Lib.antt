pub mod RanLemmas
pub mod MachineLemmas
pub mod SimulatesLemmas
pub mod ExtendsLemmas
