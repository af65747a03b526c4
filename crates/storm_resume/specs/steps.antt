-- What the steps of the body have done. No contract of a public call cites these.
pub mod Going
