pub mod Mails
pub mod Rows
pub mod FitRows
pub mod FirstRow
pub mod Splitting
pub mod AllRows
