mod Rising
pub mod Whole
