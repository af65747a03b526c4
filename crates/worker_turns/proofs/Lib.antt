pub mod Handing
pub mod Carrying
pub mod Stands
pub mod Sweeps
