pub mod ValueLemmas
pub mod NumberLemmas
