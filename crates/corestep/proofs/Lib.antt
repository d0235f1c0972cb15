pub mod BitSearch
pub mod PieceLemmas
pub mod NoteLemmas
