pub mod WordLemmas
pub mod AloneLemmas
pub mod ReadLemmas
pub mod SourceLemmas
pub mod FollowLemmas
pub mod AloneFollows
pub mod SizeLemmas
