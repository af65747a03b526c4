-- What becomes of a root's entry where another root's changes: it stays.
use Rattle.std.proofs.Common.{◌≡◌, ℕ, Bool, true, false, cond, Option, None, Some, List, [], ◌∷◌, ◌++◌, refl, sym, ap, ◌∙◌}
use Rattle.std.specs.Option.{option_map}
use Rattle.storm_values.specs.declared.value.Root.{Root}
use Rattle.rotating_ledger.specs.Held.{Held, held_at, root_eq, value_of, entry_of, with_value, without, entered, settled}
use Rattle.rotating_ledger.proofs.RootLemmas.{root_eq-same}

module _ {V : Type 0} (root : Root) where
  abbrev pub value_in : Option (ℕ × V) → Option V
  value_in entry = option_map (λ (e : ℕ × V). e.1) entry

  pub entry_by : (h : Held V) (hs : List (Held V)) (b : Bool) → root_eq root h.root ≡ b → entry_of root (h ∷ hs) ≡ cond b (Some (h.age, h.value)) (entry_of root hs)
  entry_by h hs b is = ap (λ c. cond c (Some (h.age, h.value)) (entry_of root hs)) is

  -- the first entry stays, and so does what comes after it
  pub entry-tail : (h : Held V) (hs ks : List (Held V)) → entry_of root ks ≡ entry_of root hs → entry_of root (h ∷ ks) ≡ entry_of root (h ∷ hs)
  entry-tail h hs ks later = ap (cond (root_eq root h.root) (Some (h.age, h.value))) later

  pub value-entry : (hs : List (Held V)) → value_of root hs ≡ value_in (entry_of root hs)
  value-entry [] = refl
  value-entry (h ∷ hs) = cases (root_eq root h.root) (value-entry hs)
    where
      cases : (b : Bool) → value_of root hs ≡ value_in (entry_of root hs) → cond b (Some h.value) (value_of root hs) ≡ value_in (cond b (Some (h.age, h.value)) (entry_of root hs))
      cases true later = refl
      cases false later = later

  pub entry-absent : (hs : List (Held V)) → value_of root hs ≡ None → entry_of root hs ≡ None
  entry-absent hs none = cases (entry_of root hs) (sym (value-entry hs) ∙ none)
    where
      cases : (o : Option (ℕ × V)) → value_in o ≡ None → o ≡ None
      cases None is = refl
      cases (Some e) is = absurd (some_none is)
        where
          some_none : Some e.1 ≡ None → ⊥
          some_none same = cc

  module _ (other : Root) (apart : root_eq root other ≡ false) where
    not_both : (h : Held V) → root_eq other h.root ≡ true → root_eq root h.root ≡ false
    not_both h same = ap (root_eq root) (sym (root_eq-same other h.root same)) ∙ apart

    entry-without_other : (hs : List (Held V)) → entry_of root (without other hs) ≡ entry_of root hs
    entry-without_other [] = refl
    entry-without_other (h ∷ hs) = cases (root_eq other h.root) refl (entry-without_other hs)
      where
        now : (b : Bool) → root_eq other h.root ≡ b → entry_of root (without other (h ∷ hs)) ≡ entry_of root (cond b hs (h ∷ without other hs))
        now b is = ap (λ c. entry_of root (cond c hs (h ∷ without other hs))) is

        cases : (b : Bool) → root_eq other h.root ≡ b → entry_of root (without other hs) ≡ entry_of root hs → entry_of root (without other (h ∷ hs)) ≡ entry_of root (h ∷ hs)
        cases true is later = now true is ∙ sym (entry_by h hs false (not_both h is))
        cases false is later = now false is ∙ entry-tail h hs (without other hs) later

    entry-with_other : (v : V) (hs : List (Held V)) → entry_of root (with_value other hs v) ≡ entry_of root hs
    entry-with_other v [] = refl
    entry-with_other v (h ∷ hs) = cases (root_eq other h.root) refl (entry-with_other v hs)
      where
        now : (b : Bool) → root_eq other h.root ≡ b → entry_of root (with_value other (h ∷ hs) v) ≡ entry_of root (cond b (held_at h.age h.root v ∷ hs) (h ∷ with_value other hs v))
        now b is = ap (λ c. entry_of root (cond c (held_at h.age h.root v ∷ hs) (h ∷ with_value other hs v))) is

        cases : (b : Bool) → root_eq other h.root ≡ b → entry_of root (with_value other hs v) ≡ entry_of root hs → entry_of root (with_value other (h ∷ hs) v) ≡ entry_of root (h ∷ hs)
        cases true is later = now true is ∙ entry_by (held_at h.age h.root v) hs false (not_both h is) ∙ sym (entry_by h hs false (not_both h is))
        cases false is later = now false is ∙ entry-tail h hs (with_value other hs v) later

    entry-put_other : (v : V) (hs : List (Held V)) → entry_of root (hs ++ held_at 0 other v ∷ []) ≡ entry_of root hs
    entry-put_other v [] = entry_by (held_at 0 other v) [] false apart
    entry-put_other v (h ∷ hs) = entry-tail h hs (hs ++ held_at 0 other v ∷ []) (entry-put_other v hs)

    entry-entered_other : (before : Option V) (v : V) (hs : List (Held V)) → entry_of root (entered other before v hs) ≡ entry_of root hs
    entry-entered_other None v hs = entry-put_other v hs
    entry-entered_other (Some old) v hs = entry-with_other v hs

    pub entry-settled_other : (before : Option V) (v : V) (hs : List (Held V)) (told : Bool) → entry_of root (settled other before v hs told) ≡ entry_of root hs
    entry-settled_other before v hs false = entry-entered_other before v hs
    entry-settled_other before v hs true = entry-without_other hs

    pub value-settled_other : (before : Option V) (v : V) (hs : List (Held V)) (told : Bool) → value_of root (settled other before v hs told) ≡ value_of root hs
    value-settled_other before v hs told =
        value-entry (settled other before v hs told) ∙ ap value_in (entry-settled_other before v hs told) ∙ sym (value-entry hs)
