-- What a message makes of an acker's entries.
use Rattle.std.proofs.Common.{◌≡◌, Bool, true, false, cond, Some, None, List, [], ◌∷◌, Result, Ok, Err, refl, sym, ap, subst, ◌∙◌}
use Rattle.std.specs.Prelude.{is_some, option_and_then, OnErr}
use Rattle.tree_model.specs.storm_values.declared.value.Root.{Root}
use Rattle.rotating_ledger.specs.Held.{Held, held_at, root_eq, value_of, with_value, without, entered, settled}
use Rattle.rotating_ledger.specs.Told.{told, tells}
use Rattle.rotating_ledger.proofs.HeldLemmas.{value-entered, without-entered, each-entered, each-without}
use Rattle.rotating_ledger.proofs.SlotLemmas.{same_some}
use Rattle.tree_model.specs.declared.messages.AckMsg.{AckMsg}
use Rattle.tree_model.specs.Lists.{root_of}
use Rattle.acker_core.specs.Entries.{tell, appended, told_of, met, AreSilent}
use Rattle.acker_core.specs.States.{state_of}
use Rattle.acker_core.proofs.TellLemmas.{tells-state, silent}

module _ (m : AckMsg) (hs : List (Held (List AckMsg))) (r : Root) where
  abbrev pub list_at : List AckMsg
  list_at = appended (value_of r hs) m

  abbrev pub entered_at : List (Held (List AckMsg))
  entered_at = entered r (value_of r hs) list_at hs

  met_at : r ≡ root_of m → settled r (value_of r hs) list_at hs (is_some (tell r list_at)) ≡ met m hs
  met_at e = ap (λ (q : Root). settled q (value_of q hs) (appended (value_of q hs) m) hs (is_some (tell q (appended (value_of q hs) m)))) e

  pub told-gone : r ≡ root_of m → option_and_then (tell r) (value_of r entered_at) ≡ told_of m hs
  told-gone e =
      ap (option_and_then (tell r)) (value-entered r (value_of r hs) list_at hs refl) ∙ ap (λ (q : Root). tell q (appended (value_of q hs) m)) e

  pub told-kept : r ≡ root_of m → tells (told (state_of list_at)) ≡ false → None ≡ told_of m hs
  told-kept e none = sym (silent r list_at none) ∙ ap (λ (q : Root). tell q (appended (value_of q hs) m)) e

  pub met-gone : r ≡ root_of m → tells (told (state_of list_at)) ≡ true → without r entered_at ≡ met m hs
  met-gone e is =
      without-entered r (value_of r hs) list_at hs refl
      ∙ ap (settled r (value_of r hs) list_at hs) (sym (tells-state r list_at ∙ is))
      ∙ met_at e

  pub met-kept : r ≡ root_of m → tells (told (state_of list_at)) ≡ false → entered_at ≡ met m hs
  met-kept e is = ap (settled r (value_of r hs) list_at hs) (sym (tells-state r list_at ∙ is)) ∙ met_at e

  pub silent-kept : AreSilent hs → tells (told (state_of list_at)) ≡ false → AreSilent entered_at
  silent-kept all is =
      each-entered (λ (q : Root) (list : List AckMsg). tell q list ≡ None) r (value_of r hs) list_at hs all (silent r list_at is) (λ q same. silent q list_at is)

  pub silent-gone : AreSilent hs → AreSilent (without r entered_at)
  silent-gone all =
      subst AreSilent (sym (without-entered r (value_of r hs) list_at hs refl)) (each-without (λ (q : Root) (list : List AckMsg). tell q list ≡ None) r hs all)

-- a value that is written as it was changes nothing
pub with-same : {V : Type 0} (r : Root) (v : V) (hs : List (Held V)) → value_of r hs ≡ Some v → with_value r hs v ≡ hs
with-same r v [] some = refl
with-same {V} r v (h ∷ hs) some = cases (root_eq r h.root) refl (λ later. with-same r v hs later)
  where
    value_by : (b : Bool) → root_eq r h.root ≡ b → cond b (Some h.value) (value_of r hs) ≡ Some v
    value_by b is = sym (ap (λ (c : Bool). cond c (Some h.value) (value_of r hs)) is) ∙ some

    write_by : (b : Bool) → root_eq r h.root ≡ b → with_value r (h ∷ hs) v ≡ cond b (held_at h.age h.root v ∷ hs) (h ∷ with_value r hs v)
    write_by b is = ap (λ (c : Bool). cond c (held_at h.age h.root v ∷ hs) (h ∷ with_value r hs v)) is

    cases : (b : Bool) → root_eq r h.root ≡ b → (value_of r hs ≡ Some v → with_value r hs v ≡ hs) → with_value r (h ∷ hs) v ≡ h ∷ hs
    cases true is later = write_by true is ∙ ap (λ (x : V). held_at h.age h.root x ∷ hs) (sym (same_some h.value v (value_by true is)))
    cases false is later = write_by false is ∙ ap (λ (ks : List (Held V)). h ∷ ks) (later (value_by false is))

pub on_any : {T E P : Type 0} (r : Result T E) → P → OnErr r P
on_any (Ok x) holds = tt
on_any (Err e) holds = holds
