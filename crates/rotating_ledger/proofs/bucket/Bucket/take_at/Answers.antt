use Rattle.std.proofs.Common.{◌≡◌, Some, sym, ap, ◌∙◌}
use Rattle.std.specs.Prelude.{slice_set}
use Rattle.std.proofs.lemmas.Option.{get_or_from_slice_get}
use Rattle.storm_values.specs.declared.value.Root.{Root}
use Rattle.rotating_ledger.specs.Slots.{Trims, key_of}
use Rattle.rotating_ledger.specs.declared.slot.Slot.TheVariants.{Full, Empty}
use Rattle.rotating_ledger.proofs.SlotLemmas.{AreFound-take, AreFound-trims, full_value}
use Rattle.rotating_ledger.proofs.bucket.Bucket.take_at.Goals as goal

pub returns-clause-value : goal.returns-clause-value
returns-clause-value g c =
    let there = c.requires.found.there c.args.root c.args.slot c.requires.here in
    let is : Full c.args.root there.0 ≡ Full c.in-Full.field-0 c.in-Full.value =
    sym (get_or_from_slice_get c.args.self.now.slots.items c.args.slot (Full c.args.root there.0) c.index_mut.result.now there.1)
    ∙ sym c.index_mut.ensures.value ∙ sym c.replace.ensures.value ∙ c.in-Full.is
    in there.1 ∙ ap (λ v. Some (Full c.args.root v)) (full_value _ _ _ _ is)

pub returns-clause-slots : goal.returns-clause-slots
returns-clause-slots g c = rw c.replace.ensures.after at c.trim.ensures

pub returns-clause-found : goal.returns-clause-found
returns-clause-found g c =
    let emptied : Trims (slice_set c.args.self.now.slots.items c.args.slot Empty) c.trim.new.slots.items = rw c.replace.ensures.after at c.trim.ensures in
    AreFound-trims c.remove.new.self _ _
    (AreFound-take c.args.self.now.places c.remove.new.self c.args.self.now.slots.items c.args.root c.args.slot c.requires.found c.requires.here (λ (r : Root). c.remove.ensures.updates.0 (key_of r)))
    emptied
