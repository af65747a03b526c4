-- Traces in which a root's entry stays young and its messages tell nothing.
use Rattle.std.proofs.Common.{◌≡◌, ◌+◌, ◌<◌, ℕ, Bool, true, false, cond, true≢false, nat_lt, Option, None, Some, List, [], ◌∷◌, ◌++◌, append_assoc, refl, sym, ap, ◌∙◌, arith}
use Rattle.std.proofs.lemmas.Bool.Decides.{nat_tests}
use Rattle.tree_model.specs.storm_values.declared.value.Root.{Root}
use Rattle.rotating_ledger.specs.Held.{Held, root_eq, value_of, entry_of, aged, rotated, AreHeldOnce}
use Rattle.rotating_ledger.proofs.RootLemmas.{root_eq-same}
use Rattle.rotating_ledger.proofs.OnceLemmas.{once-rotated}
use Rattle.rotating_ledger.proofs.OtherLemmas.{value_in, value-entry}
use Rattle.rotating_ledger.proofs.EntryLemmas.{entry_at, entry-rotated}
use Rattle.tree_model.specs.declared.messages.AckMsg.{AckMsg}
use Rattle.tree_model.specs.Lists.{root_of}
use Rattle.acker_core.specs.Entries.{Met, message, tick, appended, tell, told_of, met}
use Rattle.acker_core.specs.Traces.{with_message, kept_unless, unless_told, messages_of, ticks_in, ticks_since, AreUntold, Spares, IsUndisturbed}
use Rattle.acker_core.specs.declared.verdict.Verdict.{Verdict}
use Rattle.acker_core.proofs.OwnEntries.{step, once-after}

below : (a n : ℕ) → a + 1 < n → nat_lt (a + 1) n ≡ true
below a n less = grind (arith, nat_tests)

abbrev list_or : Option (ℕ × List AckMsg) → List AckMsg
list_or None = []
list_or (Some e) = e.1

with_list : (m : AckMsg) (o : Option (ℕ × List AckMsg)) → (with_message m o).1 ≡ list_or o ++ m ∷ []
with_list m None = refl
with_list m (Some e) = refl

module _ (buckets : ℕ) (root : Root) where
  appended_list : (m : AckMsg) (o : Option (ℕ × List AckMsg)) → appended (value_in root o) m ≡ list_or o ++ m ∷ []
  appended_list m None = refl
  appended_list m (Some e) = refl

  -- the ticks of an entry at the end of a trace
  abbrev ticks_at_end : Option (ℕ × List AckMsg) → List Met → ℕ
  ticks_at_end None trace = ticks_since root trace
  ticks_at_end (Some e) trace = e.0 + ticks_in trace

  -- the root has this entry, and nothing in the trace disturbs it
  pub record IsCalm (es : List (Held (List AckMsg))) (o : Option (ℕ × List AckMsg)) (trace : List Met) : Type 0 where
    pub once : AreHeldOnce es
    pub is : entry_of root es ≡ o
    pub young : ticks_at_end o trace < buckets
    pub untold : (front back : List AckMsg) → messages_of root trace ≡ front ++ back → tell root (list_or o ++ front) ≡ None

  tick_calm : (es : List (Held (List AckMsg))) (o : Option (ℕ × List AckMsg)) (trace : List Met) → IsCalm es o (tick ∷ trace)
      → (p : Option (ℕ × List AckMsg)) × IsCalm (rotated buckets es) p trace × (value_in root p ≡ value_in root o)
  tick_calm es None trace calm = (
    None,
    record {
      once = once-rotated buckets es calm.once;
      is = entry-rotated root buckets es calm.once ∙ ap (aged buckets) calm.is;
      young = calm.young;
      untold = calm.untold;
    },
    refl,
  )
  tick_calm es (Some e) trace calm =
      let young = calm.young in
      let less : nat_lt (e.0 + 1) buckets ≡ true = below e.0 buckets (omega arith) in (
        entry_at root (e.0 + 1) e.1,
        record {
          once = once-rotated buckets es calm.once;
          is = entry-rotated root buckets es calm.once ∙ ap (aged buckets) calm.is ∙ ap (λ (b : Bool). cond b (entry_at root (e.0 + 1) e.1) None) less;
          young = omega arith;
          untold = calm.untold;
        },
        refl,
      )

  young_own : (m : AckMsg) (o : Option (ℕ × List AckMsg)) (trace : List Met) → root_eq root (root_of m) ≡ true → ticks_at_end o (message m ∷ trace) < buckets
      → (with_message m o).0 + ticks_in trace < buckets
  young_own m None trace same young =
      let e : ticks_since root (message m ∷ trace) ≡ ticks_in trace = ap (λ (b : Bool). cond {A = ℕ} b (ticks_in trace) (ticks_since root trace)) same in omega arith
  young_own m (Some e) trace same young = young

  own_calm : (m : AckMsg) (es : List (Held (List AckMsg))) (o : Option (ℕ × List AckMsg)) (trace : List Met) → root_eq root (root_of m) ≡ true → IsCalm es o (message m ∷ trace)
      → (told_of m es ≡ None) × IsCalm (met m es) (Some (with_message m o)) trace
  own_calm m es o trace same calm =
      let all : messages_of root (message m ∷ trace) ≡ m ∷ messages_of root trace = ap (λ (b : Bool). cond b (m ∷ messages_of root trace) (messages_of root trace)) same in
      let none : tell root (list_or o ++ m ∷ []) ≡ None = calm.untold (m ∷ []) (messages_of root trace) all in
      let is : root ≡ root_of m = root_eq-same root (root_of m) same in
      let value : value_of root es ≡ value_in root o = value-entry root es ∙ ap (value_in root) calm.is in
      let list : appended (value_of root es) m ≡ list_or o ++ m ∷ [] = ap (λ (before : Option (List AckMsg)). appended before m) value ∙ appended_list m o in
      let told : told_of m es ≡ None = ap (λ (r : Root). tell r (appended (value_of r es) m)) (sym is) ∙ ap (tell root) list ∙ none in
      let kept : unless_told root (with_message m o) ≡ Some (with_message m o) =
      ap (λ (v : Option Verdict). kept_unless v (with_message m o)) (ap (tell root) (with_list m o) ∙ none)
      in (
        told,
        record {
          once = once-after buckets (message m) es calm.once;
          is =
              step buckets root (message m) es calm.once
              ∙ ap (λ (b : Bool). cond b (unless_told root (with_message m (entry_of root es))) (entry_of root es)) same
              ∙ ap (λ (p : Option (ℕ × List AckMsg)). unless_told root (with_message m p)) calm.is ∙ kept;
          young = young_own m o trace same calm.young;
          untold =
              λ front back split.
              ap (tell root) (ap (λ (ms : List AckMsg). ms ++ front) (with_list m o) ∙ append_assoc (list_or o) (m ∷ []) front)
              ∙ calm.untold (m ∷ front) back (all ∙ ap (λ (ms : List AckMsg). m ∷ ms) split);
        },
      )

  young_other : (m : AckMsg) (o : Option (ℕ × List AckMsg)) (trace : List Met) → root_eq root (root_of m) ≡ false → ticks_at_end o (message m ∷ trace) < buckets
      → ticks_at_end o trace < buckets
  young_other m None trace other young =
      let e : ticks_since root (message m ∷ trace) ≡ ticks_since root trace = ap (λ (b : Bool). cond {A = ℕ} b (ticks_in trace) (ticks_since root trace)) other in omega arith
  young_other m (Some e) trace other young = young

  other_calm : (m : AckMsg) (es : List (Held (List AckMsg))) (o : Option (ℕ × List AckMsg)) (trace : List Met) → root_eq root (root_of m) ≡ false → IsCalm es o (message m ∷ trace)
      → IsCalm (met m es) o trace
  other_calm m es o trace other calm =
      let all : messages_of root (message m ∷ trace) ≡ messages_of root trace = ap (λ (b : Bool). cond b (m ∷ messages_of root trace) (messages_of root trace)) other in record {
        once = once-after buckets (message m) es calm.once;
        is =
            step buckets root (message m) es calm.once
            ∙ ap (λ (b : Bool). cond b (unless_told root (with_message m (entry_of root es))) (entry_of root es)) other
            ∙ calm.is;
        young = young_other m o trace other calm.young;
        untold = λ front back split. calm.untold front back (all ∙ split);
      }

  calm_undisturbed : (trace : List Met) (es : List (Held (List AckMsg))) (o : Option (ℕ × List AckMsg)) → IsCalm es o trace → IsUndisturbed buckets root es trace
  calm_undisturbed [] es o calm = tt
  calm_undisturbed (tick ∷ trace) es o calm =
      let next = tick_calm es o trace calm in
      let same : value_of root (rotated buckets es) ≡ value_of root es =
      value-entry root (rotated buckets es) ∙ ap (value_in root) next.1.is ∙ next.2 ∙ sym (value-entry root es ∙ ap (value_in root) calm.is)
      in (same, calm_undisturbed trace (rotated buckets es) next.0 next.1)
  calm_undisturbed (message m ∷ trace) es o calm = cases (root_eq root (root_of m)) refl (λ p next. calm_undisturbed trace (met m es) p next)
    where
      cases : (b : Bool) → root_eq root (root_of m) ≡ b → ((p : Option (ℕ × List AckMsg)) → IsCalm (met m es) p trace → IsUndisturbed buckets root (met m es) trace)
          → Spares buckets root es (message m) × IsUndisturbed buckets root (met m es) trace
      cases true is later = let next = own_calm m es o trace is calm in ((λ _. next.0), later (Some (with_message m o)) next.1)
      cases false is later = ((λ same. absurd (true≢false (sym same ∙ is))), later o (other_calm m es o trace is calm))

  pub young_undisturbed : (trace : List Met) → ticks_since root trace < buckets → AreUntold root (messages_of root trace) → IsUndisturbed buckets root [] trace
  young_undisturbed trace young untold = calm_undisturbed trace [] None (record { once = tt; is = refl; young = young; untold = untold })
