pub mod BatchLemmas
pub mod MarkLemmas
pub mod OfferLemmas
