use Rattle.std.proofs.Common.{◌≡◌, ℕ, Some, None, inl, inr, sym, ap, subst, ◌∙◌, arith}
use Rattle.std.specs.Prelude.{slice_set}
use Rattle.rotating_ledger.specs.Held.{with_value, AreHeldOnce}
use Rattle.rotating_ledger.specs.Slots.{place_from, held_of, value_in, refilled}
use Rattle.rotating_ledger.specs.Lent.{with_slot}
use Rattle.rotating_ledger.proofs.SlotLemmas.{full_here, some_here, AreFound-lent}
use Rattle.rotating_ledger.proofs.BucketLemmas.{found_at, taking, taken-value, written, AllFound-set, place-none, value-nowhere, rotation_of}
use Rattle.rotating_ledger.proofs.OnceLemmas.{once-with}
use Rattle.rotating_ledger.proofs.rotating.Rotating.get.Goals as goal

pub index_mut-bucket-requires : goal.index_mut-bucket-requires
index_mut-bucket-requires g c =
    let p : ℕ × ℕ = (c.in-Some.place, c.in-Some.slot) in
    let at : place_from 0 c.args.root c.self.inside.buckets.items ≡ Some p = ap (place_from 0 c.args.root) (sym c.deref.ensures.value) ∙ sym c.in-Some.ensures in
    let found = found_at c.self.inside.buckets.items c.args.root p at in
    let within = found.0 in
    let len = c.self.inside.buckets.ok.0 in omega arith

pub value_mut-requires : goal.value_mut-requires
value_mut-requires g c =
    let p : ℕ × ℕ = (c.in-Some.place, c.in-Some.slot) in
    let at : place_from 0 c.args.root c.self.inside.buckets.items ≡ Some p = ap (place_from 0 c.args.root) (sym c.deref.ensures.value) ∙ sym c.in-Some.ensures in
    let here = taking c.self.inside.buckets.items c.args.root p c.index_mut-bucket.result.now c.self.invariant.2 at c.index_mut-bucket.ensures.value in
    some_here c.index_mut-bucket.result.now.places c.index_mut-bucket.result.now.slots.items c.args.root c.in-Some.slot here.0 here.1

pub invariant_of-self-lent : goal.invariant_of-self-lent
invariant_of-self-lent g c w =
    let p : ℕ × ℕ = (c.in-Some.place, c.in-Some.slot) in
    let at : place_from 0 c.args.root c.self.inside.buckets.items ≡ Some p = ap (place_from 0 c.args.root) (sym c.deref.ensures.value) ∙ sym c.in-Some.ensures in
    let here = taking c.self.inside.buckets.items c.args.root p c.index_mut-bucket.result.now c.self.invariant.2 at c.index_mut-bucket.ensures.value in
    let full = full_here c.index_mut-bucket.result.now.places c.index_mut-bucket.result.now.slots.items c.args.root c.in-Some.slot here.0 here.1 in (
      c.self.invariant.0,
      c.self.invariant.1,
      AllFound-set c.self.inside.buckets.items c.in-Some.place (with_slot c.index_mut-bucket.result.now c.in-Some.slot w) c.self.invariant.2
          (AreFound-lent c.index_mut-bucket.result.now.places c.index_mut-bucket.result.now.slots.items c.args.root c.in-Some.slot w here.0 here.1),
      subst AreHeldOnce
          (sym (written c.self.inside.buckets.items c.args.root p c.index_mut-bucket.result.now (with_slot c.index_mut-bucket.result.now c.in-Some.slot w) full.0 w c.self.invariant.2 at
          c.index_mut-bucket.ensures.value full.2 (ap (λ s. slice_set c.index_mut-bucket.result.now.slots.items c.in-Some.slot (refilled s w)) full.1)))
          (once-with c.args.root w (held_of c.self.inside.buckets.items) c.self.invariant.3),
    )

pub returns-in-Some : goal.returns-in-Some
returns-in-Some g c =
    let p : ℕ × ℕ = (c.in-Some.place, c.in-Some.slot) in
    let at : place_from 0 c.args.root c.self.inside.buckets.items ≡ Some p = ap (place_from 0 c.args.root) (sym c.deref.ensures.value) ∙ sym c.in-Some.ensures in
    let here = taking c.self.inside.buckets.items c.args.root p c.index_mut-bucket.result.now c.self.invariant.2 at c.index_mut-bucket.ensures.value in
    let full = full_here c.index_mut-bucket.result.now.places c.index_mut-bucket.result.now.slots.items c.args.root c.in-Some.slot here.0 here.1 in
    let lent : (w : g.row.V.Denot) → rotation_of c.self.inside.buckets.len (held_of (slice_set c.self.inside.buckets.items c.in-Some.place (with_slot c.index_mut-bucket.result.now c.in-Some.slot w)))
    ≡ rotation_of c.args.self.now.buckets (with_value c.args.root c.args.self.now.held w) =
    λ w.
    rw (← c.self.view_is)
    (ap (rotation_of c.self.inside.buckets.len)
    (written c.self.inside.buckets.items c.args.root p c.index_mut-bucket.result.now (with_slot c.index_mut-bucket.result.now c.in-Some.slot w) full.0 w c.self.invariant.2 at
    c.index_mut-bucket.ensures.value full.2 (ap (λ s. slice_set c.index_mut-bucket.result.now.slots.items c.in-Some.slot (refilled s w)) full.1)))
    in (
      λ i. inl (c.value_mut.result.ghost_name, λ w. lent w i),
      record {
        lends = tt;
        value =
            sym c.value_mut.ensures.value ∙ ap value_in full.1
            ∙ rw (← c.self.view_is)
            (sym (taken-value c.self.inside.buckets.items c.args.root p c.index_mut-bucket.result.now full.0 c.self.invariant.2 at c.index_mut-bucket.ensures.value full.2));
      },
    )

pub returns-in-None : goal.returns-in-None
returns-in-None g c =
    let at : place_from 0 c.args.root c.self.inside.buckets.items ≡ None = ap (place_from 0 c.args.root) (sym c.deref.ensures.value) ∙ sym c.in-None.ensures in (
      ap inr c.self.view_is,
      record {
        lends = tt;
        value = rw (← c.self.view_is) (sym (value-nowhere c.args.root c.self.inside.buckets.items c.self.invariant.2 (place-none 0 c.args.root c.self.inside.buckets.items at)));
      },
    )
