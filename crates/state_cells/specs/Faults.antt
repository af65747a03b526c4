-- A store's fault as a part's.
use Rattle.storm_stores.specs.declared.fault.StoreFault.{StoreFault}
use Rattle.storm_stores.specs.declared.fault.StoreFault.TheVariants as store
use Rattle.state_cells.specs.declared.fault.PartFault.{PartFault}
use Rattle.state_cells.specs.declared.fault.PartFault.TheVariants.{Store, Memory}

abbrev pub fault_of : StoreFault → PartFault
fault_of store.Failed = Store
fault_of store.Memory = Memory
