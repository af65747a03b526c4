mod Plans
pub mod Widths
pub mod Functions
