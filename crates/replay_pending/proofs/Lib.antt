mod CountLemmas
pub mod Lists
pub mod Counting
pub mod Found
pub mod Late
mod CallLemmas
