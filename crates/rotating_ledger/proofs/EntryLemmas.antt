-- What becomes of a root's own entry.
use Rattle.std.proofs.Common.{◌≡◌, ◌+◌, ℕ, Bool, true, false, cond, nat_lt, Option, None, Some, List, [], ◌∷◌, ◌++◌, refl, sym, ap, ◌∙◌}
use Rattle.storm_values.specs.declared.value.Root.{Root}
use Rattle.rotating_ledger.specs.Held.{Held, held_at, root_eq, value_of, entry_of, aged, with_value, without, entered, rotated, AreHeldOnce}
use Rattle.rotating_ledger.proofs.RootLemmas.{root_eq-refl, root_eq-same}
use Rattle.rotating_ledger.proofs.OnceLemmas.{absent-rotated, gone-without}
use Rattle.rotating_ledger.proofs.OtherLemmas.{entry_by, entry-absent, value-entry, value_in}

module _ {V : Type 0} (root : Root) where
  abbrev pub ticks_in : Option (ℕ × V) → ℕ
  ticks_in None = 0
  ticks_in (Some e) = e.0

  abbrev pub entry_at : ℕ → V → Option (ℕ × V)
  entry_at ticks v = Some (ticks, v)

  pub entry-gone : (hs : List (Held V)) → AreHeldOnce hs → entry_of root (without root hs) ≡ None
  entry-gone hs once = entry-absent root (without root hs) (gone-without root hs once)

  entry-put : (v : V) (hs : List (Held V)) → entry_of root hs ≡ None → entry_of root (hs ++ held_at 0 root v ∷ []) ≡ entry_at 0 v
  entry-put v [] none = entry_by root (held_at 0 root v) [] true (root_eq-refl root)
  entry-put v (h ∷ hs) none = cases (root_eq root h.root) refl (entry-put v hs)
    where
      some_none : entry_at h.age h.value ≡ None → ⊥
      some_none same = cc

      cases : (b : Bool) → root_eq root h.root ≡ b → (entry_of root hs ≡ None → entry_of root (hs ++ held_at 0 root v ∷ []) ≡ entry_at 0 v) → entry_of root (h ∷ (hs ++ held_at 0 root v ∷ [])) ≡ entry_at 0 v
      cases true is later = absurd (some_none (sym (entry_by root h hs true is) ∙ none))
      cases false is later = entry_by root h (hs ++ held_at 0 root v ∷ []) false is ∙ later (sym (entry_by root h hs false is) ∙ none)

  entry-with : (v : V) (e : ℕ × V) (hs : List (Held V)) → entry_of root hs ≡ Some e → entry_of root (with_value root hs v) ≡ entry_at e.0 v
  entry-with v e [] some = absurd (none_some some)
    where
      none_some : None ≡ Some e → ⊥
      none_some same = cc
  entry-with v e (h ∷ hs) some = cases (root_eq root h.root) refl (entry-with v e hs)
    where
      now : (b : Bool) → root_eq root h.root ≡ b → entry_of root (with_value root (h ∷ hs) v) ≡ entry_of root (cond b (held_at h.age h.root v ∷ hs) (h ∷ with_value root hs v))
      now b is = ap (λ c. entry_of root (cond c (held_at h.age h.root v ∷ hs) (h ∷ with_value root hs v))) is

      cases : (b : Bool) → root_eq root h.root ≡ b → (entry_of root hs ≡ Some e → entry_of root (with_value root hs v) ≡ entry_at e.0 v) → entry_of root (with_value root (h ∷ hs) v) ≡ entry_at e.0 v
      cases true is later =
          now true is ∙ entry_by root (held_at h.age h.root v) hs true is
          ∙ ap (λ (o : Option (ℕ × V)). entry_at (ticks_in o) v) (sym (entry_by root h hs true is) ∙ some)
      cases false is later = now false is ∙ entry_by root h (with_value root hs v) false is ∙ later (sym (entry_by root h hs false is) ∙ some)

  -- an entry begins, or has another value
  pub entry-entered : (before : Option V) (v : V) (hs : List (Held V)) (o : Option (ℕ × V)) → entry_of root hs ≡ o → value_of root hs ≡ before → entry_of root (entered root before v hs) ≡ entry_at (ticks_in o) v
  entry-entered None v hs o is was = entry-put v hs (entry-absent root hs was) ∙ ap (λ (p : Option (ℕ × V)). entry_at (ticks_in p) v) (sym (entry-absent root hs was) ∙ is)
  entry-entered (Some old) v hs None is was = absurd (none_some (sym (value-entry root hs ∙ ap (value_in root) is) ∙ was))
    where
      none_some : None ≡ Some old → ⊥
      none_some same = cc
  entry-entered (Some old) v hs (Some e) is was = entry-with v e hs is

  -- an entry is a rotation older, or goes
  pub entry-rotated : (n : ℕ) (hs : List (Held V)) → AreHeldOnce hs → entry_of root (rotated n hs) ≡ aged n (entry_of root hs)
  entry-rotated n [] once = refl
  entry-rotated n (h ∷ hs) once = cases (root_eq root h.root) refl (nat_lt (h.age + 1) n) refl (entry-rotated n hs once.1)
    where
      now : (y : Bool) → nat_lt (h.age + 1) n ≡ y → entry_of root (rotated n (h ∷ hs)) ≡ entry_of root (cond y (held_at (h.age + 1) h.root h.value ∷ rotated n hs) (rotated n hs))
      now y is = ap (λ c. entry_of root (cond c (held_at (h.age + 1) h.root h.value ∷ rotated n hs) (rotated n hs))) is

      then_aged : (y : Bool) → nat_lt (h.age + 1) n ≡ y → aged n (entry_at h.age h.value) ≡ cond y (entry_at (h.age + 1) h.value) None
      then_aged y is = ap (λ c. cond c (entry_at (h.age + 1) h.value) None) is

      cases : (b : Bool) → root_eq root h.root ≡ b → (y : Bool) → nat_lt (h.age + 1) n ≡ y → entry_of root (rotated n hs) ≡ aged n (entry_of root hs)
          → entry_of root (rotated n (h ∷ hs)) ≡ aged n (entry_of root (h ∷ hs))
      cases true is true young later =
          now true young ∙ entry_by root (held_at (h.age + 1) h.root h.value) (rotated n hs) true is
          ∙ sym (then_aged true young) ∙ ap (aged n) (sym (entry_by root h hs true is))
      cases true is false old later =
          now false old
          ∙ entry-absent root (rotated n hs) (absent-rotated root n hs (ap (λ (r : Root). value_of r hs) (root_eq-same root h.root is) ∙ once.0))
          ∙ sym (then_aged false old) ∙ ap (aged n) (sym (entry_by root h hs true is))
      cases false is true young later =
          now true young ∙ entry_by root (held_at (h.age + 1) h.root h.value) (rotated n hs) false is ∙ later ∙ ap (aged n) (sym (entry_by root h hs false is))
      cases false is false old later = now false old ∙ later ∙ ap (aged n) (sym (entry_by root h hs false is))
