mod NumberLemmas
mod EventLemmas
mod ScheduleLemmas
