-- Values that are entered, taken out and dropped.
use Rattle.std.proofs.Common.{◌≡◌, ℕ, Bool, true, false, cond, Option, Some, None, List, [], ◌∷◌, ◌++◌, refl, sym, ap, ◌∙◌}
use Rattle.std.specs.List.{AllByRecursion}
use Rattle.std.specs.Prelude.{◌+◌, nat_lt}
use Rattle.storm_values.specs.declared.value.Root.{Root}
use Rattle.rotating_ledger.specs.Held.{Held, Rotation, held_at, root_eq, value_of, without, with_value, entered, rotated}
use Rattle.rotating_ledger.proofs.RootLemmas.{root_eq-refl}

module _ {V : Type 0} where
  -- these values in the same buckets
  abbrev pub with_held : Rotation V → List (Held V) → Rotation V
  with_held s hs = record s { held = hs }

  -- what is left where a root's value is taken out
  abbrev pub taken_out : Root → Rotation V → Rotation V
  taken_out root s = record s { held = without root s.held }

  none_some : (v : V) → Some v ≡ None → ⊥
  none_some v same = cc

  -- the value of a root that is the first in a list
  pub value-first : (root : Root) (h : Held V) (hs : List (Held V)) → root_eq root h.root ≡ true → value_of root (h ∷ hs) ≡ Some h.value
  value-first root h hs same = ap (λ b. cond b (Some h.value) (value_of root hs)) same

  pub value-later : (root : Root) (h : Held V) (hs : List (Held V)) → root_eq root h.root ≡ false → value_of root (h ∷ hs) ≡ value_of root hs
  value-later root h hs other = ap (λ b. cond b (Some h.value) (value_of root hs)) other

  value-put : (root : Root) (v : V) (hs : List (Held V)) → value_of root hs ≡ None → value_of root (hs ++ held_at 0 root v ∷ []) ≡ Some v
  value-put root v [] none = ap (λ b. cond b (Some v) None) (root_eq-refl root)
  value-put root v (h ∷ hs) none = cases (root_eq root h.root) refl (λ later. value-put root v hs later)
    where
      cases : (b : Bool) → root_eq root h.root ≡ b → (value_of root hs ≡ None → value_of root (hs ++ held_at 0 root v ∷ []) ≡ Some v) → value_of root ((h ∷ hs) ++ held_at 0 root v ∷ []) ≡ Some v
      cases true same put = absurd (none_some h.value (sym (value-first root h hs same) ∙ none))
      cases false other put =
          value-later root h (hs ++ held_at 0 root v ∷ []) other ∙ put (sym (value-later root h hs other) ∙ none)

  value-with : (root : Root) (v w : V) (hs : List (Held V)) → value_of root hs ≡ Some v → value_of root (with_value root hs w) ≡ Some w
  value-with root v w [] some = absurd (none_some v (sym some))
  value-with root v w (h ∷ hs) some = cases (root_eq root h.root) refl (λ later. value-with root v w hs later)
    where
      now : (b : Bool) → root_eq root h.root ≡ b → value_of root (with_value root (h ∷ hs) w) ≡ value_of root (cond b (held_at h.age h.root w ∷ hs) (h ∷ with_value root hs w))
      now b is = ap (λ c. value_of root (cond c (held_at h.age h.root w ∷ hs) (h ∷ with_value root hs w))) is

      cases : (b : Bool) → root_eq root h.root ≡ b → (value_of root hs ≡ Some v → value_of root (with_value root hs w) ≡ Some w)
          → value_of root (with_value root (h ∷ hs) w) ≡ Some w
      cases true same later = now true same ∙ value-first root (held_at h.age h.root w) hs same
      cases false other later =
          now false other ∙ value-later root h (with_value root hs w) other ∙ later (sym (value-later root h hs other) ∙ some)

  -- after an entry the root has the value
  pub value-entered : (root : Root) (before : Option V) (v : V) (hs : List (Held V)) → value_of root hs ≡ before → value_of root (entered root before v hs) ≡ Some v
  value-entered root None v hs was = value-put root v hs was
  value-entered root (Some old) v hs was = value-with root old v hs was

  pub without-absent : (root : Root) (hs : List (Held V)) → value_of root hs ≡ None → without root hs ≡ hs
  without-absent root [] none = refl
  without-absent root (h ∷ hs) none = cases (root_eq root h.root) refl (λ rest. without-absent root hs rest)
    where
      cases : (b : Bool) → root_eq root h.root ≡ b → (value_of root hs ≡ None → without root hs ≡ hs) → without root (h ∷ hs) ≡ h ∷ hs
      cases true same later = absurd (none_some h.value (sym (value-first root h hs same) ∙ none))
      cases false other later =
          ap (λ b. cond b hs (h ∷ without root hs)) other ∙ ap (λ ks. h ∷ ks) (later (sym (value-later root h hs other) ∙ none))

  without-put : (root : Root) (v : V) (hs : List (Held V)) → value_of root hs ≡ None → without root (hs ++ held_at 0 root v ∷ []) ≡ hs
  without-put root v [] none = ap (λ b. cond b [] (held_at 0 root v ∷ [])) (root_eq-refl root)
  without-put root v (h ∷ hs) none = cases (root_eq root h.root) refl (λ rest. without-put root v hs rest)
    where
      cases : (b : Bool) → root_eq root h.root ≡ b → (value_of root hs ≡ None → without root (hs ++ held_at 0 root v ∷ []) ≡ hs) → without root ((h ∷ hs) ++ held_at 0 root v ∷ []) ≡ h ∷ hs
      cases true same later = absurd (none_some h.value (sym (value-first root h hs same) ∙ none))
      cases false other later =
          ap (λ b. cond b (hs ++ held_at 0 root v ∷ []) (h ∷ without root (hs ++ held_at 0 root v ∷ []))) other
          ∙ ap (λ ks. h ∷ ks) (later (sym (value-later root h hs other) ∙ none))

  pub without-with : (root : Root) (w : V) (hs : List (Held V)) → without root (with_value root hs w) ≡ without root hs
  without-with root w [] = refl
  without-with root w (h ∷ hs) = cases (root_eq root h.root) refl (without-with root w hs)
    where
      now : (b : Bool) → root_eq root h.root ≡ b → without root (with_value root (h ∷ hs) w) ≡ without root (cond b (held_at h.age h.root w ∷ hs) (h ∷ with_value root hs w))
      now b is = ap (λ c. without root (cond c (held_at h.age h.root w ∷ hs) (h ∷ with_value root hs w))) is

      cases : (b : Bool) → root_eq root h.root ≡ b → without root (with_value root hs w) ≡ without root hs → without root (with_value root (h ∷ hs) w) ≡ without root (h ∷ hs)
      cases true same later =
          now true same ∙ ap (λ b. cond b hs (held_at h.age h.root w ∷ without root hs)) same ∙ sym (ap (λ b. cond b hs (h ∷ without root hs)) same)
      cases false other later =
          now false other ∙ ap (λ b. cond b (with_value root hs w) (h ∷ without root (with_value root hs w))) other
          ∙ ap (λ ks. h ∷ ks) later ∙ sym (ap (λ b. cond b hs (h ∷ without root hs)) other)

  -- an entry is gone where it is taken out
  pub without-entered : (root : Root) (before : Option V) (v : V) (hs : List (Held V)) → value_of root hs ≡ before
      → without root (entered root before v hs) ≡ without root hs
  without-entered root None v hs was = without-put root v hs was ∙ sym (without-absent root hs was)
  without-entered root (Some old) v hs was = without-with root v hs

  -- ---- what holds of each value

  module _ (P : Root → V → Type 0) where
    abbrev pub Each : List (Held V) → Type 0
    Each hs = AllByRecursion (λ (h : Held V). P h.root h.value) hs

    each-put : (root : Root) (v : V) (hs : List (Held V)) → Each hs → P root v → Each (hs ++ held_at 0 root v ∷ [])
    each-put root v [] all here = (here, tt)
    each-put root v (h ∷ hs) all here = (all.0, each-put root v hs all.1 here)

    each-with : (root : Root) (w : V) (hs : List (Held V)) → Each hs → P root w → ((q : Root) → root_eq root q ≡ true → P q w) → Each (with_value root hs w)
    each-with root w [] all here same = tt
    each-with root w (h ∷ hs) all here same = cases (root_eq root h.root) refl (each-with root w hs all.1 here same)
      where
        cases : (b : Bool) → root_eq root h.root ≡ b → Each (with_value root hs w) → Each (cond b (held_at h.age h.root w ∷ hs) (h ∷ with_value root hs w))
        cases true is later = (same h.root is, all.1)
        cases false other later = (all.0, later)

    pub each-entered : (root : Root) (before : Option V) (v : V) (hs : List (Held V)) → Each hs → P root v
        → ((q : Root) → root_eq root q ≡ true → P q v) → Each (entered root before v hs)
    each-entered root None v hs all here same = each-put root v hs all here
    each-entered root (Some old) v hs all here same = each-with root v hs all here same

    pub each-without : (root : Root) (hs : List (Held V)) → Each hs → Each (without root hs)
    each-without root [] all = tt
    each-without root (h ∷ hs) all = cases (root_eq root h.root) (each-without root hs all.1)
      where
        cases : (b : Bool) → Each (without root hs) → Each (cond b hs (h ∷ without root hs))
        cases true later = all.1
        cases false later = (all.0, later)

    pub each-rotated : (n : ℕ) (hs : List (Held V)) → Each hs → Each (rotated n hs)
    each-rotated n [] all = tt
    each-rotated n (h ∷ hs) all = cases (nat_lt (h.age + 1) n) (each-rotated n hs all.1)
      where
        cases : (b : Bool) → Each (rotated n hs) → Each (cond b (held_at (h.age + 1) h.root h.value ∷ rotated n hs) (rotated n hs))
        cases true later = (all.0, later)
        cases false later = later
