use Rattle.std.proofs.Common.{rules}
use Rattle.storm_stores.specs.MemoryStore.{failing_of}
use Rattle.storm_stores.proofs.SlotLemmas.{changes_after}
use Rattle.storm_stores.proofs.memory_maker.MemMaker.fail.Goals as goal

pub returns-clause-ok : goal.returns-clause-ok
returns-clause-ok c = rw (← c.self.view_is)
    (changes_after c.args.component c.args.part c.in_ok-i.i c.self.inside.slots.items c.place.new.slots.items c.index_mut-slot.result.now
    (failing_of c.args.at.kind (record { number = c.args.at.number; happened = c.args.at.happened })) c.fail.new.self
    c.place.ensures.same c.in_ok-i.ensures.place c.in_ok-i.ensures.within c.index_mut-slot.ensures.value (search rules))
