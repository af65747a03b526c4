use Rattle.std.proofs.Common.{refl}
use Rattle.storm_stores.proofs.CellMapLemmas.{InKeyOrder-none}
use Rattle.storm_stores.proofs.memory_store.MemStore.new.Goals as goal

pub returns-clause-told : goal.returns-clause-told
returns-clause-told c = (rw c.new.ensures.empty refl, InKeyOrder-none)
