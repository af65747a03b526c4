mod CellLemmas
mod GatheredLemmas
mod Joined
mod NumberLemmas
mod Pieces
mod ReadingLemmas
