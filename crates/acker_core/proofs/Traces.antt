-- The entry of a root is all its messages, where nothing disturbs it.
use Rattle.std.proofs.Common.{◌≡◌, ℕ, Bool, true, false, cond, Option, None, Some, List, [], ◌∷◌, ◌++◌, refl, sym, ap, subst, ◌∙◌, append_assoc, append-nil}
use Rattle.std.specs.Prelude.{fold, is_some}
use Rattle.tree_model.specs.storm_values.declared.value.Root.{Root}
use Rattle.rotating_ledger.specs.Held.{Held, root_eq, value_of, settled, rotated}
use Rattle.rotating_ledger.proofs.RootLemmas.{root_eq-same}
use Rattle.rotating_ledger.proofs.HeldLemmas.{value-entered}
use Rattle.rotating_ledger.proofs.OtherLemmas.{value-settled_other}
use Rattle.tree_model.specs.declared.messages.AckMsg.{AckMsg}
use Rattle.tree_model.specs.Lists.{root_of}
use Rattle.acker_core.specs.Entries.{Met, message, tick, after, appended, list_with, told_of, met}
use Rattle.acker_core.specs.Traces.{messages_of, IsUndisturbed}

-- a root's list after more messages, where this was the list, if there was an entry
abbrev pub joined : Option (List AckMsg) → List AckMsg → Option (List AckMsg)
joined before [] = before
joined before (m ∷ ms) = joined (Some (appended before m)) ms

module _ (buckets : ℕ) (root : Root) where
  -- a message of the root that tells nothing
  own : (m : AckMsg) (es : List (Held (List AckMsg))) → root_eq root (root_of m) ≡ true → told_of m es ≡ None → value_of root (met m es) ≡ Some (appended (value_of root es) m)
  own m es same none =
      let is : root ≡ root_of m = root_eq-same root (root_of m) same in
      subst (λ (r : Root). value_of r (met m es) ≡ Some (appended (value_of r es) m)) (sym is)
      (ap (λ (b : Bool). value_of (root_of m) (settled (root_of m) (value_of (root_of m) es) (list_with m es) es b)) (ap is_some none)
      ∙ value-entered (root_of m) (value_of (root_of m) es) (list_with m es) es refl)

  pub all_kept : (trace : List Met) (es : List (Held (List AckMsg))) → IsUndisturbed buckets root es trace → value_of root (fold (after buckets) es trace) ≡ joined (value_of root es) (messages_of root trace)
  all_kept [] es calm = refl
  all_kept (tick ∷ trace) es calm = all_kept trace (rotated buckets es) calm.1 ∙ ap (λ (o : Option (List AckMsg)). joined o (messages_of root trace)) calm.0
  all_kept (message m ∷ trace) es calm = all_kept trace (met m es) calm.1 ∙ cases (root_eq root (root_of m)) refl
    where
      now : (b : Bool) → root_eq root (root_of m) ≡ b → joined (value_of root es) (messages_of root (message m ∷ trace)) ≡ joined (value_of root es) (cond b (m ∷ messages_of root trace) (messages_of root trace))
      now b is = ap (λ (c : Bool). joined (value_of root es) (cond c (m ∷ messages_of root trace) (messages_of root trace))) is

      after_message : Option (List AckMsg) → Option (List AckMsg)
      after_message o = joined o (messages_of root trace)

      cases : (b : Bool) → root_eq root (root_of m) ≡ b → joined (value_of root (met m es)) (messages_of root trace) ≡ joined (value_of root es) (messages_of root (message m ∷ trace))
      cases true is = ap after_message (own m es is (calm.0 is)) ∙ sym (now true is)
      cases false is = ap after_message (value-settled_other root (root_of m) is (value_of (root_of m) es) (list_with m es) es (is_some (told_of m es))) ∙ sym (now false is)

joined_some : (list ms : List AckMsg) → joined (Some list) ms ≡ Some (list ++ ms)
joined_some list [] = ap Some (sym (append-nil list))
joined_some list (m ∷ ms) = joined_some (list ++ m ∷ []) ms ∙ ap Some (append_assoc list (m ∷ []) ms)

appended_joined : (ms : List AckMsg) (m : AckMsg) → appended (joined None ms) m ≡ ms ++ m ∷ []
appended_joined [] m = refl
appended_joined (x ∷ ms) m = ap (λ (o : Option (List AckMsg)). appended o m) (joined_some (x ∷ []) ms)

-- the list of a root that had no entry at first
pub list_since : (buckets : ℕ) (es : List (Held (List AckMsg))) (trace : List Met) (m : AckMsg) → value_of (root_of m) es ≡ None → IsUndisturbed buckets (root_of m) es trace
    → list_with m (fold (after buckets) es trace) ≡ messages_of (root_of m) trace ++ m ∷ []
list_since buckets es trace m none calm =
    ap (λ (o : Option (List AckMsg)). appended o m)
    (all_kept buckets (root_of m) trace es calm ∙ ap (λ (o : Option (List AckMsg)). joined o (messages_of (root_of m) trace)) none)
    ∙ appended_joined (messages_of (root_of m) trace) m
