pub mod Seats
pub mod Engines
pub mod Starts
pub mod Lending
pub mod Exchanges
pub mod Boosts
pub mod Shutting
