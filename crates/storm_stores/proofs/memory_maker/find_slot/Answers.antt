use Rattle.storm_stores.specs.MemoryMaker.{is_slot}
use Rattle.storm_stores.proofs.SlotLemmas.{position_else}
use Rattle.storm_stores.proofs.memory_maker.find_slot.Goals as goal

pub returns-clause-place : goal.returns-clause-place
returns-clause-place c = rw c.unwrap_or.ensures (position_else (is_slot c.args.component c.args.part) c.args.slots.now c.search_slot.result c.search_slot.ensures.place)
