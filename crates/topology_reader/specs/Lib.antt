pub use Rattle.topology_form.specs.declared.fault.TopoFault
pub use Rattle.topology_form.specs.Faults
pub mod Prelude
pub mod Wiring
pub mod Planned
pub mod FirstFault
pub mod ValidFile
pub mod Steps
