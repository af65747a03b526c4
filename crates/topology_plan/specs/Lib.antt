pub mod Limits
pub mod Texts
pub mod Topology
pub mod Valid
pub mod Functions
pub mod Wired
pub mod Inside
