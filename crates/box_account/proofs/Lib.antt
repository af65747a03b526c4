mod Boxes
mod Histories
mod Verdicts
pub mod Hearing
mod Truth
