pub mod Cells
pub mod Fated
pub mod Steps
pub use Rattle.report_grammar.specs.Report
