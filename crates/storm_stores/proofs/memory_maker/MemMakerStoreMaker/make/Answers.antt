use Rattle.std.proofs.Common.{rules}
use Rattle.storm_stores.proofs.SlotLemmas.{changes_part, ChangesPart-after, store_before}
use Rattle.storm_stores.proofs.memory_maker.MemMakerStoreMaker.make.Goals as goal

pub returns-clause-store : goal.returns-clause-store
returns-clause-store c =
    let before = store_before c.args.component c.args.part c.in_ok-i.i c.self.inside.slots.items c.place.new.slots.items c.index_mut-slot.result.now
    c.place.ensures.same c.in_ok-i.ensures.place c.in_ok-i.ensures.within c.index_mut-slot.ensures.value in
    rw (← c.self.view_is, before) (search rules)

pub returns-clause-ok : goal.returns-clause-ok
returns-clause-ok c = rw (← c.self.view_is, c.replace-store.ensures.after, c.new.ensures.state)
    (ChangesPart-after c.self.inside.slots.items c.place.new.slots.items _ c.args.component c.args.part _ _ c.place.ensures.same
    (changes_part c.args.component c.args.part c.in_ok-i.i c.place.new.slots.items c.index_mut-slot.result.now _ _
    c.in_ok-i.ensures.place c.in_ok-i.ensures.within c.index_mut-slot.ensures.value))
