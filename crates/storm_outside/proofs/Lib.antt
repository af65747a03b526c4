pub mod Named
mod Progress
