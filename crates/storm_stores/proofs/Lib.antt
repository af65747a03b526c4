pub mod CellMapLemmas
mod TableCells
mod SlotLemmas
