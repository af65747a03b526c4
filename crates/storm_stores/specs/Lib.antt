pub mod CellMaps
pub mod MemoryStore
pub mod MemoryMaker
pub mod Keys
