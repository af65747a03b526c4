use Rattle.std.proofs.Common.{refl, sym, ap, ◌∙◌}
use Rattle.rotating_ledger.specs.Slots.{value_in, refilled}
use Rattle.rotating_ledger.specs.Lent.{put_slot}
use Rattle.rotating_ledger.proofs.SlotLemmas.{read_slot}
use Rattle.rotating_ledger.proofs.bucket.Bucket.value_mut.Goals as goal

pub returns : goal.returns
returns g c =
    let read = read_slot c.args.self.now.slots.items c.args.slot c.index_mut.result.now c.index_mut.ensures.value c.requires in (
      (refl, λ w. ap (λ s. put_slot c.args.self.now c.args.slot (refilled s w)) (sym read)),
      record { lends = tt; value = ap value_in read ∙ c.value_mut.ensures.value },
    )
