pub mod ChainLemmas
pub mod StoreLemmas
pub mod LinkLemmas
pub mod ViewLemmas
pub mod HoldLemmas
pub mod ArenaLemmas
