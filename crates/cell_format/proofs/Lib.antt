pub mod LayoutLemmas
mod ReadLemmas
pub mod CommitLemmas
mod ChangeLemmas
