mod TextLemmas
mod RowLemmas
mod KeyLemmas
mod OrderLemmas
mod SplitLemmas
mod LineLemmas
pub mod InputLemmas
mod TextsRead
