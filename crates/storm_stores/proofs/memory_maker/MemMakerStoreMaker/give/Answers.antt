use Rattle.std.proofs.Common.{◌≡◌, length, ap, ◌∙◌, true, arith}
use Rattle.std.specs.List.{position_or_len}
use Rattle.storm_stores.specs.MemoryMaker.{is_slot, made_at}
use Rattle.storm_stores.proofs.SlotLemmas.{gives_back, made_within}
use Rattle.storm_stores.proofs.memory_maker.MemMakerStoreMaker.give.Goals as goal

pub index_mut-slot-requires : goal.index_mut-slot-requires
index_mut-slot-requires c =
    let at : c.find_slot-i.result ≡ position_or_len (is_slot c.args.component c.args.part) c.self.inside.slots.items =
    c.find_slot-i.ensures.place ∙ ap (position_or_len (is_slot c.args.component c.args.part)) c.deref.ensures.value in
    let made : made_at c.self.inside.slots.items c.args.component c.args.part ≡ true = rw (← c.self.view_is) at c.requires in
    let within = made_within c.args.component c.args.part c.find_slot-i.result c.self.inside.slots.items at (omega (arith, c.find_slot-i.ensures.within, ap length c.deref.ensures.value)) made in
    omega (arith, within, c.self.inside.slots.ok.0)

pub returns-clause-ok : goal.returns-clause-ok
returns-clause-ok c =
    let at : c.find_slot-i.result ≡ position_or_len (is_slot c.args.component c.args.part) c.self.inside.slots.items =
    c.find_slot-i.ensures.place ∙ ap (position_or_len (is_slot c.args.component c.args.part)) c.deref.ensures.value in
    let made : made_at c.self.inside.slots.items c.args.component c.args.part ≡ true = rw (← c.self.view_is) at c.requires in
    let within = made_within c.args.component c.args.part c.find_slot-i.result c.self.inside.slots.items at (omega (arith, c.find_slot-i.ensures.within, ap length c.deref.ensures.value)) made in
    rw (← c.self.view_is) (gives_back c.args.component c.args.part c.find_slot-i.result c.self.inside.slots.items c.index_mut-slot.result.now c.args.store made at within c.index_mut-slot.ensures.value)
