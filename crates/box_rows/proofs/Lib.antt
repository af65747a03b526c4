pub mod Weighing
pub mod Changing
pub mod Splitting
pub mod Numbers
pub mod AllRows
pub mod Fitting
pub mod Making
pub mod Wholes
