mod AgedLemmas
mod AtOnce
mod SeatLemmas
mod ShutLemmas
pub mod GoesLemmas
mod EngineLemmas
mod OpenLemmas
mod TurnLemmas
mod TurnEvents
pub mod LoopLemmas
pub mod StartLemmas
pub mod WorldLemmas
pub mod FatesLemmas
pub mod BoostLemmas
mod ExchangeLemmas
mod WriteLemmas
