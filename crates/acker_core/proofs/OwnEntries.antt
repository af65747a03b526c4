-- A root's entry over a trace, by itself.
use Rattle.std.proofs.Common.{◌≡◌, ℕ, Bool, true, false, cond, Option, None, Some, List, [], ◌∷◌, refl, sym, ap, subst, ◌∙◌}
use Rattle.std.specs.Prelude.{fold, is_some}
use Rattle.tree_model.specs.storm_values.declared.value.Root.{Root}
use Rattle.rotating_ledger.specs.Held.{Held, root_eq, value_of, entry_of, settled, AreHeldOnce}
use Rattle.rotating_ledger.proofs.RootLemmas.{root_eq-same}
use Rattle.rotating_ledger.proofs.OnceLemmas.{once-rotated, once-settled}
use Rattle.rotating_ledger.proofs.OtherLemmas.{value_in, value-entry, entry-settled_other}
use Rattle.rotating_ledger.proofs.EntryLemmas.{ticks_in, entry_at, entry-gone, entry-entered, entry-rotated}
use Rattle.tree_model.specs.declared.messages.AckMsg.{AckMsg}
use Rattle.tree_model.specs.Lists.{root_of}
use Rattle.acker_core.specs.Entries.{Met, message, tick, after, appended, list_with, tell, told_of, met}
use Rattle.acker_core.specs.Traces.{with_message, kept_unless, unless_told, entry_after}
use Rattle.acker_core.specs.declared.verdict.Verdict.{Verdict}

-- an entry with one more message, by its parts
with_parts : (m : AckMsg) (o : Option (ℕ × List AckMsg)) (before : Option (List AckMsg)) → before ≡ (value_in (root_of m) o) → Some (with_message m o) ≡ entry_at (root_of m) (ticks_in (root_of m) o) (appended before m)
with_parts m None before is = ap (λ b. entry_at (root_of m) 0 (appended b m)) (sym is)
with_parts m (Some e) before is = ap (λ b. entry_at (root_of m) e.0 (appended b m)) (sym is)

module _ (m : AckMsg) (es : List (Held (List AckMsg))) (once : AreHeldOnce es) where
  abbrev entry : Option (ℕ × List AckMsg)
  entry = entry_of (root_of m) es

  abbrev list_now : Option (ℕ × List AckMsg) → List AckMsg
  list_now None = []
  list_now (Some e) = e.1

  parts : Some (with_message m entry) ≡ entry_at (root_of m) (ticks_in (root_of m) entry) (list_with m es)
  parts = with_parts m entry (value_of (root_of m) es) (value-entry (root_of m) es)

  by_verdict : (o : Option Verdict) → entry_of (root_of m) (settled (root_of m) (value_of (root_of m) es) (list_with m es) es (is_some o)) ≡ kept_unless o (with_message m entry)
  by_verdict None = entry-entered (root_of m) (value_of (root_of m) es) (list_with m es) es entry refl refl ∙ sym parts
  by_verdict (Some verdict) = entry-gone (root_of m) es once

  -- a message of the root itself
  own : entry_of (root_of m) (met m es) ≡ unless_told (root_of m) (with_message m entry)
  own =
      by_verdict (told_of m es)
      ∙ ap (λ (list : List AckMsg). kept_unless (tell (root_of m) list) (with_message m entry)) (sym (ap list_now parts))

pub step : (buckets : ℕ) (root : Root) (x : Met) (es : List (Held (List AckMsg))) → AreHeldOnce es → entry_of root (after buckets es x) ≡ entry_after buckets root (entry_of root es) x
step buckets root tick es once = entry-rotated root buckets es once
step buckets root (message m) es once = cases (root_eq root (root_of m)) refl
  where
    now : (b : Bool) → root_eq root (root_of m) ≡ b → entry_after buckets root (entry_of root es) (message m) ≡ cond b (unless_told root (with_message m (entry_of root es))) (entry_of root es)
    now b is = ap (λ c. cond c (unless_told root (with_message m (entry_of root es))) (entry_of root es)) is

    cases : (b : Bool) → root_eq root (root_of m) ≡ b → entry_of root (met m es) ≡ entry_after buckets root (entry_of root es) (message m)
    cases true is =
        subst (λ (r : Root). entry_of r (met m es) ≡ unless_told r (with_message m (entry_of r es))) (sym (root_eq-same root (root_of m) is)) (own m es once)
        ∙ sym (now true is)
    cases false is =
        entry-settled_other root (root_of m) is (value_of (root_of m) es) (list_with m es) es (is_some (told_of m es)) ∙ sym (now false is)

pub once-after : (buckets : ℕ) (x : Met) (es : List (Held (List AckMsg))) → AreHeldOnce es → AreHeldOnce (after buckets es x)
once-after buckets tick es once = once-rotated buckets es once
once-after buckets (message m) es once = once-settled (root_of m) (value_of (root_of m) es) (list_with m es) es (is_some (told_of m es)) refl once

pub by_itself : (buckets : ℕ) (root : Root) (es : List (Held (List AckMsg))) (trace : List Met) → AreHeldOnce es
    → entry_of root (fold (after buckets) es trace) ≡ fold (entry_after buckets root) (entry_of root es) trace
by_itself buckets root es [] once = refl
by_itself buckets root es (x ∷ trace) once =
    by_itself buckets root (after buckets es x) trace (once-after buckets x es once)
    ∙ ap (λ (o : Option (ℕ × List AckMsg)). fold (entry_after buckets root) o trace) (step buckets root x es once)
