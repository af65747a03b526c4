pub mod EndLemmas
pub mod FileCauses
pub mod FileLemmas
pub mod InOrder
pub mod ReportLemmas
