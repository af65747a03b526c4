pub mod Pieces
pub mod Files
pub mod Place
pub mod MemoryShelf
pub mod MemorySink
