pub mod Cells
pub mod Gathered
pub mod Headings
pub mod Printed
