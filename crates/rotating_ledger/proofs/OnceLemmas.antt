-- Roots that are held once, and those that are not held.
use Rattle.std.proofs.Common.{◌≡◌, ℕ, Bool, true, false, cond, Option, Some, None, List, [], ◌∷◌, ◌++◌, refl, sym, ap, ◌∙◌}
use Rattle.std.specs.Prelude.{◌+◌, nat_lt}
use Rattle.storm_values.specs.declared.value.Root.{Root}
use Rattle.rotating_ledger.specs.Held.{Held, held_at, root_eq, value_of, without, with_value, entered, settled, rotated, AreHeldOnce}
use Rattle.rotating_ledger.proofs.RootLemmas.{root_eq-same, root_eq-turned}
use Rattle.rotating_ledger.proofs.HeldLemmas.{value-first, value-later}

module _ {V : Type 0} where
  -- ---- a root that is not held

  absent-head : (root : Root) (h : Held V) (hs : List (Held V)) → value_of root (h ∷ hs) ≡ None → root_eq root h.root ≡ false
  absent-head root h hs none = cases (root_eq root h.root) refl
    where
      some_none : Some h.value ≡ None → ⊥
      some_none same = cc

      cases : (b : Bool) → root_eq root h.root ≡ b → b ≡ false
      cases true is = absurd (some_none (sym (value-first root h hs is) ∙ none))
      cases false is = refl

  pub absent-tail : (root : Root) (h : Held V) (hs : List (Held V)) → value_of root (h ∷ hs) ≡ None → value_of root hs ≡ None
  absent-tail root h hs none = sym (value-later root h hs (absent-head root h hs none)) ∙ none

  absent-cons : (root : Root) (h : Held V) (hs : List (Held V)) → root_eq root h.root ≡ false → value_of root hs ≡ None → value_of root (h ∷ hs) ≡ None
  absent-cons root h hs other none = value-later root h hs other ∙ none

  absent-put : (root other : Root) (v : V) (hs : List (Held V)) → root_eq root other ≡ false → value_of root hs ≡ None → value_of root (hs ++ held_at 0 other v ∷ []) ≡ None
  absent-put root other v [] apart none = absent-cons root (held_at 0 other v) [] apart refl
  absent-put root other v (h ∷ hs) apart none =
      absent-cons root h (hs ++ held_at 0 other v ∷ []) (absent-head root h hs none) (absent-put root other v hs apart (absent-tail root h hs none))

  absent-with : (root other : Root) (v : V) (hs : List (Held V)) → value_of root hs ≡ None → value_of root (with_value other hs v) ≡ None
  absent-with root other v [] none = refl
  absent-with root other v (h ∷ hs) none = cases (root_eq other h.root) (absent-with root other v hs (absent-tail root h hs none))
    where
      cases : (b : Bool) → value_of root (with_value other hs v) ≡ None → value_of root (cond b (held_at h.age h.root v ∷ hs) (h ∷ with_value other hs v)) ≡ None
      cases true later = absent-cons root (held_at h.age h.root v) hs (absent-head root h hs none) (absent-tail root h hs none)
      cases false later = absent-cons root h (with_value other hs v) (absent-head root h hs none) later

  absent-without : (root other : Root) (hs : List (Held V)) → value_of root hs ≡ None → value_of root (without other hs) ≡ None
  absent-without root other [] none = refl
  absent-without root other (h ∷ hs) none = cases (root_eq other h.root) (absent-without root other hs (absent-tail root h hs none))
    where
      cases : (b : Bool) → value_of root (without other hs) ≡ None → value_of root (cond b hs (h ∷ without other hs)) ≡ None
      cases true later = absent-tail root h hs none
      cases false later = absent-cons root h (without other hs) (absent-head root h hs none) later

  pub absent-rotated : (root : Root) (n : ℕ) (hs : List (Held V)) → value_of root hs ≡ None → value_of root (rotated n hs) ≡ None
  absent-rotated root n [] none = refl
  absent-rotated root n (h ∷ hs) none = cases (nat_lt (h.age + 1) n) (absent-rotated root n hs (absent-tail root h hs none))
    where
      cases : (b : Bool) → value_of root (rotated n hs) ≡ None → value_of root (cond b (held_at (h.age + 1) h.root h.value ∷ rotated n hs) (rotated n hs)) ≡ None
      cases true later = absent-cons root (held_at (h.age + 1) h.root h.value) (rotated n hs) (absent-head root h hs none) later
      cases false later = later

  -- ---- roots that are held once

  pub once-put : (root : Root) (v : V) (hs : List (Held V)) → AreHeldOnce hs → value_of root hs ≡ None → AreHeldOnce (hs ++ held_at 0 root v ∷ [])
  once-put root v [] once none = (refl, tt)
  once-put root v (h ∷ hs) once none = (
    absent-put h.root root v hs (root_eq-turned root h.root (absent-head root h hs none)) once.0,
    once-put root v hs once.1 (absent-tail root h hs none),
  )

  pub once-with : (root : Root) (v : V) (hs : List (Held V)) → AreHeldOnce hs → AreHeldOnce (with_value root hs v)
  once-with root v [] once = tt
  once-with root v (h ∷ hs) once = cases (root_eq root h.root) (once-with root v hs once.1)
    where
      cases : (b : Bool) → AreHeldOnce (with_value root hs v) → AreHeldOnce (cond b (held_at h.age h.root v ∷ hs) (h ∷ with_value root hs v))
      cases true later = (once.0, once.1)
      cases false later = (absent-with h.root root v hs once.0, later)

  pub once-without : (root : Root) (hs : List (Held V)) → AreHeldOnce hs → AreHeldOnce (without root hs)
  once-without root [] once = tt
  once-without root (h ∷ hs) once = cases (root_eq root h.root) (once-without root hs once.1)
    where
      cases : (b : Bool) → AreHeldOnce (without root hs) → AreHeldOnce (cond b hs (h ∷ without root hs))
      cases true later = once.1
      cases false later = (absent-without h.root root hs once.0, later)

  pub once-rotated : (n : ℕ) (hs : List (Held V)) → AreHeldOnce hs → AreHeldOnce (rotated n hs)
  once-rotated n [] once = tt
  once-rotated n (h ∷ hs) once = cases (nat_lt (h.age + 1) n) (once-rotated n hs once.1)
    where
      cases : (b : Bool) → AreHeldOnce (rotated n hs) → AreHeldOnce (cond b (held_at (h.age + 1) h.root h.value ∷ rotated n hs) (rotated n hs))
      cases true later = (absent-rotated h.root n hs once.0, later)
      cases false later = later

  -- a root that was held once is not held any more where it is taken out
  pub gone-without : (root : Root) (hs : List (Held V)) → AreHeldOnce hs → value_of root (without root hs) ≡ None
  gone-without root [] once = refl
  gone-without root (h ∷ hs) once = cases (root_eq root h.root) refl (gone-without root hs once.1)
    where
      now : (b : Bool) → root_eq root h.root ≡ b → value_of root (without root (h ∷ hs)) ≡ value_of root (cond b hs (h ∷ without root hs))
      now b is = ap (λ c. value_of root (cond c hs (h ∷ without root hs))) is

      cases : (b : Bool) → root_eq root h.root ≡ b → value_of root (without root hs) ≡ None → value_of root (without root (h ∷ hs)) ≡ None
      cases true is later = now true is ∙ ap (λ (r : Root). value_of r hs) (root_eq-same root h.root is) ∙ once.0
      cases false is later = now false is ∙ absent-cons root h (without root hs) is later

  once-entered : (root : Root) (before : Option V) (v : V) (hs : List (Held V)) → value_of root hs ≡ before → AreHeldOnce hs → AreHeldOnce (entered root before v hs)
  once-entered root None v hs was once = once-put root v hs once was
  once-entered root (Some old) v hs was once = once-with root v hs once

  pub once-settled : (root : Root) (before : Option V) (v : V) (hs : List (Held V)) (told : Bool) → value_of root hs ≡ before → AreHeldOnce hs → AreHeldOnce (settled root before v hs told)
  once-settled root before v hs false was once = once-entered root before v hs was once
  once-settled root before v hs true was once = once-without root hs once
