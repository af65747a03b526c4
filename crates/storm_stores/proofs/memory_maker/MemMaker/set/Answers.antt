use Rattle.std.proofs.Common.{rules, refl, ap, subst}
use Rattle.storm_stores.specs.CellMaps.{InKeyOrder, with_cell}
use Rattle.storm_stores.specs.MemoryStore.{StoreState}
use Rattle.storm_stores.proofs.SlotLemmas.{changes_after, held_after, store_before}
use Rattle.storm_stores.proofs.memory_maker.MemMaker.set.Goals as goal

pub returns-clause-ok : goal.returns-clause-ok
returns-clause-ok c = rw (← c.self.view_is)
    (changes_after c.args.component c.args.part c.in_ok-i.i c.self.inside.slots.items c.place.new.slots.items c.index_mut-slot.result.now
    (λ (s : StoreState). record s { cells = with_cell s.cells c.args.key c.args.cell }) c.set.new.self
    c.place.ensures.same c.in_ok-i.ensures.place c.in_ok-i.ensures.within c.index_mut-slot.ensures.value (search rules))

pub returns-clause-held : goal.returns-clause-held
returns-clause-held c =
    let f = λ (s : StoreState). record s { cells = with_cell s.cells c.args.key c.args.cell } in
    let changes = changes_after c.args.component c.args.part c.in_ok-i.i c.self.inside.slots.items c.place.new.slots.items c.index_mut-slot.result.now f c.set.new.self
    c.place.ensures.same c.in_ok-i.ensures.place c.in_ok-i.ensures.within c.index_mut-slot.ensures.value (search rules) in
    let before = store_before c.args.component c.args.part c.in_ok-i.i c.self.inside.slots.items c.place.new.slots.items c.index_mut-slot.result.now
    c.place.ensures.same c.in_ok-i.ensures.place c.in_ok-i.ensures.within c.index_mut-slot.ensures.value in
    rw (← c.self.view_is) (held_after c.args.component c.args.part c.self.inside.slots.items _ _ c.args.key c.args.cell changes.store_is refl
    (rw before (subst InKeyOrder (ap (λ (s : StoreState). s.cells) c.in_ok-set.ensures.ok) c.in_ok-set.ensures.ordered)))
