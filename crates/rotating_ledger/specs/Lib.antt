pub mod Held
pub mod Slots
pub mod Lent
pub mod Lending
pub mod Told
