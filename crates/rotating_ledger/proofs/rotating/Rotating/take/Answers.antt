use Rattle.std.proofs.Common.{◌≡◌, ℕ, Some, None, sym, ap, subst, ◌∙◌, arith}
use Rattle.rotating_ledger.specs.Held.{value_of, AreHeldOnce}
use Rattle.rotating_ledger.specs.Slots.{place_from, held_of}
use Rattle.rotating_ledger.proofs.BucketLemmas.{found_at, taking, taken-value, taken-others, AllFound-set, place-none, value-nowhere, without-nowhere, rotation_of}
use Rattle.rotating_ledger.proofs.OnceLemmas.{once-without, gone-without}
use Rattle.rotating_ledger.proofs.rotating.Rotating.take.Goals as goal

pub index_mut-bucket-requires : goal.index_mut-bucket-requires
index_mut-bucket-requires g c =
    let p : ℕ × ℕ = (c.in-Some.place, c.in-Some.slot) in
    let at : place_from 0 c.args.root c.self.inside.buckets.items ≡ Some p = ap (place_from 0 c.args.root) (sym c.deref.ensures.value) ∙ sym c.in-Some.ensures in
    let found = found_at c.self.inside.buckets.items c.args.root p at in
    let within = found.0 in
    let len = c.self.inside.buckets.ok.0 in omega arith

pub take_at-requires-clause-found : goal.take_at-requires-clause-found
take_at-requires-clause-found g c =
    let p : ℕ × ℕ = (c.in-Some.place, c.in-Some.slot) in
    let at : place_from 0 c.args.root c.self.inside.buckets.items ≡ Some p = ap (place_from 0 c.args.root) (sym c.deref.ensures.value) ∙ sym c.in-Some.ensures in
    (taking c.self.inside.buckets.items c.args.root p c.index_mut-bucket.result.now c.self.invariant.2 at c.index_mut-bucket.ensures.value).0

pub take_at-requires-clause-here : goal.take_at-requires-clause-here
take_at-requires-clause-here g c =
    let p : ℕ × ℕ = (c.in-Some.place, c.in-Some.slot) in
    let at : place_from 0 c.args.root c.self.inside.buckets.items ≡ Some p = ap (place_from 0 c.args.root) (sym c.deref.ensures.value) ∙ sym c.in-Some.ensures in
    (taking c.self.inside.buckets.items c.args.root p c.index_mut-bucket.result.now c.self.invariant.2 at c.index_mut-bucket.ensures.value).1

pub invariant_of-self : goal.invariant_of-self
invariant_of-self g c =
    let p : ℕ × ℕ = (c.in-Some.place, c.in-Some.slot) in
    let at : place_from 0 c.args.root c.self.inside.buckets.items ≡ Some p = ap (place_from 0 c.args.root) (sym c.deref.ensures.value) ∙ sym c.in-Some.ensures in (
      c.self.invariant.0,
      c.self.invariant.1,
      AllFound-set c.self.inside.buckets.items c.in-Some.place c.take_at.new.self c.self.invariant.2 c.take_at.ensures.found,
      subst AreHeldOnce
          (sym (taken-others c.self.inside.buckets.items c.args.root p c.index_mut-bucket.result.now c.take_at.new.self c.take_at.result c.self.invariant.2 at
          c.index_mut-bucket.ensures.value c.take_at.ensures.value c.take_at.ensures.slots))
          (once-without c.args.root (held_of c.self.inside.buckets.items) c.self.invariant.3),
    )

pub returns-in-Some-clause-value : goal.returns-in-Some-clause-value
returns-in-Some-clause-value g c =
    let p : ℕ × ℕ = (c.in-Some.place, c.in-Some.slot) in
    let at : place_from 0 c.args.root c.self.inside.buckets.items ≡ Some p = ap (place_from 0 c.args.root) (sym c.deref.ensures.value) ∙ sym c.in-Some.ensures in
    rw (← c.self.view_is)
    (sym (taken-value c.self.inside.buckets.items c.args.root p c.index_mut-bucket.result.now c.take_at.result c.self.invariant.2 at c.index_mut-bucket.ensures.value c.take_at.ensures.value))

pub returns-in-Some-clause-others : goal.returns-in-Some-clause-others
returns-in-Some-clause-others g c =
    let p : ℕ × ℕ = (c.in-Some.place, c.in-Some.slot) in
    let at : place_from 0 c.args.root c.self.inside.buckets.items ≡ Some p = ap (place_from 0 c.args.root) (sym c.deref.ensures.value) ∙ sym c.in-Some.ensures in
    rw (← c.self.view_is)
    (ap (rotation_of c.self.inside.buckets.len)
    (taken-others c.self.inside.buckets.items c.args.root p c.index_mut-bucket.result.now c.take_at.new.self c.take_at.result c.self.invariant.2 at
    c.index_mut-bucket.ensures.value c.take_at.ensures.value c.take_at.ensures.slots))

pub returns-in-None-clause-value : goal.returns-in-None-clause-value
returns-in-None-clause-value g c =
    let at : place_from 0 c.args.root c.self.inside.buckets.items ≡ None = ap (place_from 0 c.args.root) (sym c.deref.ensures.value) ∙ sym c.in-None.ensures in
    rw (← c.self.view_is)
    (sym (value-nowhere c.args.root c.self.inside.buckets.items c.self.invariant.2 (place-none 0 c.args.root c.self.inside.buckets.items at)))

pub returns-in-None-clause-others : goal.returns-in-None-clause-others
returns-in-None-clause-others g c =
    let at : place_from 0 c.args.root c.self.inside.buckets.items ≡ None = ap (place_from 0 c.args.root) (sym c.deref.ensures.value) ∙ sym c.in-None.ensures in
    rw (← c.self.view_is)
    (ap (rotation_of c.self.inside.buckets.len)
    (sym (without-nowhere c.args.root c.self.inside.buckets.items c.self.invariant.2 (place-none 0 c.args.root c.self.inside.buckets.items at))))

pub returns-in-Some-clause-gone : goal.returns-in-Some-clause-gone
returns-in-Some-clause-gone g c =
    let p : ℕ × ℕ = (c.in-Some.place, c.in-Some.slot) in
    let at : place_from 0 c.args.root c.self.inside.buckets.items ≡ Some p = ap (place_from 0 c.args.root) (sym c.deref.ensures.value) ∙ sym c.in-Some.ensures in
    ap (value_of c.args.root)
    (taken-others c.self.inside.buckets.items c.args.root p c.index_mut-bucket.result.now c.take_at.new.self c.take_at.result c.self.invariant.2 at
    c.index_mut-bucket.ensures.value c.take_at.ensures.value c.take_at.ensures.slots)
    ∙ gone-without c.args.root (held_of c.self.inside.buckets.items) c.self.invariant.3

pub returns-in-None-clause-gone : goal.returns-in-None-clause-gone
returns-in-None-clause-gone g c =
    let at : place_from 0 c.args.root c.self.inside.buckets.items ≡ None = ap (place_from 0 c.args.root) (sym c.deref.ensures.value) ∙ sym c.in-None.ensures in
    rw (← c.self.view_is)
    (value-nowhere c.args.root c.self.inside.buckets.items c.self.invariant.2 (place-none 0 c.args.root c.self.inside.buckets.items at))
