-- A root that is held once is found wherever its value is seen.
use Rattle.std.proofs.Common.{◌≡◌, ℕ, suc, zero, ◌+◌, Option, Some, None, List, [], ◌∷◌, ◌++◌, length, refl, sym, ap, ◌∙◌, arith}
use Rattle.std.specs.Prelude.{slice_get}
use Rattle.storm_values.specs.declared.value.Root.{Root}
use Rattle.rotating_ledger.specs.Held.{Held, value_of, AreHeldOnce}
use Rattle.rotating_ledger.specs.Slots.{slot_at, held_in, held_of, AllFound, HasAt, found_or, place_from}
use Rattle.rotating_ledger.specs.declared.bucket.Bucket.{Bucket}
use Rattle.rotating_ledger.specs.declared.slot.Slot.{Slot}
use Rattle.rotating_ledger.specs.declared.slot.Slot.TheVariants.{Full, Empty}
use Rattle.rotating_ledger.proofs.SlotLemmas.{same_some, empty_full, full_root}
use Rattle.rotating_ledger.proofs.BucketLemmas.{absent-place, AllFound-at}
use Rattle.rotating_ledger.proofs.OnceLemmas.{absent-tail}

module _ {V : Type 0} where
  absent-back : (r : Root) (hs ks : List (Held V)) → value_of r (hs ++ ks) ≡ None → value_of r ks ≡ None
  absent-back r [] ks none = none
  absent-back r (h ∷ hs) ks none = absent-back r hs ks (absent-tail r h (hs ++ ks) none)

  once-back : (hs ks : List (Held V)) → AreHeldOnce (hs ++ ks) → AreHeldOnce ks
  once-back [] ks once = once
  once-back (h ∷ hs) ks once = once-back hs ks once.1

  -- what these slots have is not held behind them
  held-front : (r : Root) (v : V) (age : ℕ) (ss : List (Slot V)) (i : ℕ) (ks : List (Held V)) → AreHeldOnce (held_in age ss ++ ks)
      → slice_get ss i ≡ Some (Full r v) → value_of r ks ≡ None
  held-front r v age [] i ks once at = absurd (none_some at)
    where
      none_some : None ≡ Some (Full r v) → ⊥
      none_some same = cc
  held-front r v age (Empty ∷ ss) zero ks once at = absurd (empty_full r v (same_some _ _ at))
  held-front r v age (Empty ∷ ss) (suc i) ks once at = held-front r v age ss i ks once at
  held-front r v age (Full q w ∷ ss) zero ks once at =
      ap (λ (x : Root). value_of x ks) (sym (full_root q r w v (same_some _ _ at))) ∙ absent-back q (held_in age ss) ks once.0
  held-front r v age (Full q w ∷ ss) (suc i) ks once at = held-front r v age ss i ks once.1 at

  place-held : (n : ℕ) (r : Root) (bs : List (Bucket V)) (k s : ℕ) (b : Bucket V) → AllFound bs → AreHeldOnce (held_of bs)
      → slice_get bs k ≡ Some b → HasAt b s r → place_from n r bs ≡ Some (n + k, s)
  place-held n r [] k s b all once here has = absurd (none_some here)
    where
      none_some : None ≡ Some b → ⊥
      none_some same = cc
  place-held n r (d ∷ bs) zero s b all once here has =
      let at : slot_at d.places r ≡ Some s = all.0.found r has.0 s (ap (λ (x : Bucket V). slice_get x.slots.items s) (same_some _ _ here) ∙ has.1) in
      let same : n ≡ n + 0 = omega arith in
      ap (λ o. found_or o n (place_from (n + 1) r bs)) at ∙ ap (λ (m : ℕ). Some (m, s)) same
  place-held n r (d ∷ bs) (suc k) s b all once here has =
      cases (slot_at d.places r) refl (place-held (n + 1) r bs k s b all.1 (once-back (held_in (length bs) d.slots.items) (held_of bs) once) here has)
    where
      cases : (o : Option ℕ) → slot_at d.places r ≡ o → place_from (n + 1) r bs ≡ Some (n + 1 + k, s) → place_from n r (d ∷ bs) ≡ Some (n + suc k, s)
      cases None is later =
          let more : n + 1 + k ≡ n + suc k = omega arith in
          ap (λ o. found_or o n (place_from (n + 1) r bs)) is ∙ later ∙ ap (λ (m : ℕ). Some (m, s)) more
      cases (Some i) is later =
          let there = all.0.there r i is in
          let none : value_of r (held_of bs) ≡ None = held-front r there.0 (length bs) d.slots.items i (held_of bs) once there.1 in
          absurd (none_some (sym (absent-place r bs k b all.1 none here) ∙ (AllFound-at bs k b all.1 here).found r has.0 s has.1))
        where
          none_some : ◌≡◌ {A = Option ℕ} None (Some s) → ⊥
          none_some same = cc

  -- the place where a root is seen is the one where it is found
  pub place-seen : (r : Root) (bs : List (Bucket V)) (p : ℕ × ℕ) → AllFound bs → AreHeldOnce (held_of bs)
      → (b : Bucket V) × (slice_get bs p.0 ≡ Some b) × HasAt b p.1 r → Some p ≡ place_from 0 r bs
  place-seen r bs p all once seen =
      let same : 0 + p.0 ≡ p.0 = omega arith in
      sym (place-held 0 r bs p.0 p.1 seen.0 all once seen.1 seen.2 ∙ ap (λ (m : ℕ). Some (m, p.1)) same)
