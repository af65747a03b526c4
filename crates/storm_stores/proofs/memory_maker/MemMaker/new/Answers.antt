use Rattle.storm_stores.proofs.SlotLemmas.{HoldsFor-none}
use Rattle.storm_stores.proofs.memory_maker.MemMaker.new.Goals as goal

pub returns-clause-held : goal.returns-clause-held
returns-clause-held c = λ component p. rw c.new.ensures.items (HoldsFor-none component p)
