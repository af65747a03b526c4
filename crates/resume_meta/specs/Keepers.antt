-- What a keeper holds, and the fault that one of its calls is to a meta.
use Rattle.std.specs.Prelude.{ℕ, List, Option}
use Rattle.storm_stores.specs.declared.fault.StoreFault.{StoreFault}
use Rattle.storm_stores.specs.declared.fault.StoreFault.TheVariants as store
use Rattle.resume_meta.specs.declared.fault.MetaFault.{MetaFault}
use Rattle.resume_meta.specs.declared.fault.MetaFault.TheVariants as meta

-- bytes, or nothing yet
abbrev pub Held : Type 0
Held = Option (List ℕ)

-- the fault of a meta that a keeper's call which was not done is
abbrev pub fault_by : StoreFault → MetaFault
fault_by store.Failed = meta.Keep
fault_by store.Memory = meta.Memory
