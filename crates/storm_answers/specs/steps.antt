-- What the steps of the bodies have done. No contract of a public call cites these.
pub mod Ended
pub mod Reading
pub mod Stops
