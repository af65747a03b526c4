-- The moves of single pieces of work.
use Rattle.std.proofs.Common.{◌≡◌, ℕ, ◌+◌, nat_lt, Bool, true, false, cond, Option, None, Some, List, [], ◌∷◌, ◌++◌, length, map, sym, refl, ap, ◌∙◌, arith}
use Rattle.std.specs.Prelude.{is_some}
use Rattle.std.specs.List.{AllByRecursion}
use Rattle.acker_core.specs.Entries.{appended, list_with, told_of, met}
use Rattle.acker_core.specs.declared.verdict.Verdict.{Verdict}
use Rattle.tree_model.specs.bolt_ops.RowOp.{Custom}
use Rattle.tree_model.specs.counted_items.Weights.{weigh}
use Rattle.tree_model.proofs.counted_items.Weighing.{weigh-append, weigh-push, weigh-map}
use Rattle.rotating_ledger.specs.Held.{Held, held_at, value_of, without, with_value, entered, settled, rotated, dropped}
use Rattle.tree_model.specs.storm_values.declared.value.Root.{Root}
use Rattle.tree_model.specs.topology_plan.Topology.{Topology}
use Rattle.tree_model.specs.tuple_tickets.Roots.{root_eq}
use Rattle.tree_model.proofs.tuple_tickets.Roots.{same_root}
use Rattle.tree_model.specs.declared.messages.AckMsg.{AckMsg}
use Rattle.tree_model.specs.declared.messages.Parcel.TheVariants.{ToTask, ToAcker}
use Rattle.tree_model.specs.Lists.{root_of}
use Rattle.tuple_account.specs.Histories.{of_parcel, of_verdict, Opening, Execution, Told, IsOpening, IsExecution, IsTold, opening_parcels, execution_parcels}
use Rattle.tuple_account.specs.Moves.{beside, Moves}
use Rattle.tuple_account.specs.Parts.{holding, keeping, giving, weigh_entries, telling_by, telling, verdicts_of, starting, opening, executing, meeting, dropping}
use Rattle.tuple_account.proofs.Placing.{spans-more}

abbrev list_in : Option (List AckMsg) → List AckMsg
list_in None = []
list_in (Some list) = list

-- ---- entries

module _ (g : Root → AckMsg → ℕ) (r : Root) where
  with-weight : (list value : List AckMsg) (es : List (Held (List AckMsg))) → value_of r es ≡ Some list → weigh_entries g (with_value r es value) + weigh (g r) list ≡ weigh_entries g es + weigh (g r) value
  with-weight list value [] is = cc
  with-weight list value (h ∷ hs) is = cases (root_eq r h.root) refl is (with-weight list value hs)
    where
      cases : (b : Bool) → root_eq r h.root ≡ b → cond b (Some h.value) (value_of r hs) ≡ Some list
          → (value_of r hs ≡ Some list → weigh_entries g (with_value r hs value) + weigh (g r) list ≡ weigh_entries g hs + weigh (g r) value)
          → weigh_entries g (cond b (record h { value = value } ∷ hs) (h ∷ with_value r hs value)) + weigh (g r) list ≡ weigh_entries g (h ∷ hs) + weigh (g r) value
      cases true its found later =
          let root : r ≡ h.root = same_root r h.root its in
          let now : weigh (g r) value ≡ weigh (g h.root) value = ap (λ (q : Root). weigh (g q) value) root in
          let old : weigh (g r) list ≡ weigh (g h.root) h.value = ap (λ (q : Root). weigh (g q) list) root ∙ ap (λ (o : Option (List AckMsg)). weigh (g h.root) (list_in o)) (sym found) in omega arith
      cases false its found later = let rest = later found in omega arith

  without-weight : (list : List AckMsg) (es : List (Held (List AckMsg))) → value_of r es ≡ Some list → weigh_entries g (without r es) + weigh (g r) list ≡ weigh_entries g es
  without-weight list [] is = cc
  without-weight list (h ∷ hs) is = cases (root_eq r h.root) refl is (without-weight list hs)
    where
      cases : (b : Bool) → root_eq r h.root ≡ b → cond b (Some h.value) (value_of r hs) ≡ Some list
          → (value_of r hs ≡ Some list → weigh_entries g (without r hs) + weigh (g r) list ≡ weigh_entries g hs)
          → weigh_entries g (cond b hs (h ∷ without r hs)) + weigh (g r) list ≡ weigh_entries g (h ∷ hs)
      cases true its found later =
          let root : r ≡ h.root = same_root r h.root its in
          let old : weigh (g r) list ≡ weigh (g h.root) h.value = ap (λ (q : Root). weigh (g q) list) root ∙ ap (λ (o : Option (List AckMsg)). weigh (g h.root) (list_in o)) (sym found) in omega arith
      cases false its found later = let rest = later found in omega arith

  without-none : (es : List (Held (List AckMsg))) → value_of r es ≡ None → weigh_entries g (without r es) ≡ weigh_entries g es
  without-none [] is = refl
  without-none (h ∷ hs) is = cases (root_eq r h.root) is (without-none hs)
    where
      cases : (b : Bool) → cond b (Some h.value) (value_of r hs) ≡ None → (value_of r hs ≡ None → weigh_entries g (without r hs) ≡ weigh_entries g hs)
          → weigh_entries g (cond b hs (h ∷ without r hs)) ≡ weigh_entries g (h ∷ hs)
      cases true found later = cc
      cases false found later = let rest = later found in omega arith

  -- an entry that goes with one more message
  gone-weight : (m : AckMsg) (es : List (Held (List AckMsg))) (o : Option (List AckMsg)) → value_of r es ≡ o → weigh_entries g (without r es) + weigh (g r) (appended o m) ≡ weigh_entries g es + g r m
  gone-weight m es None is = let e = without-none es is in omega arith
  gone-weight m es (Some list) is = let e = without-weight list es is in let p = weigh-push (g r) list m in omega arith

  -- an entry that has one more message, or begins with it
  entered-weight : (m : AckMsg) (es : List (Held (List AckMsg))) (o : Option (List AckMsg)) → value_of r es ≡ o → weigh_entries g (entered r o (appended o m) es) ≡ weigh_entries g es + g r m
  entered-weight m es None is = let e = weigh-append (λ (h : Held (List AckMsg)). weigh (g h.root) h.value) es (held_at 0 r (m ∷ []) ∷ []) in omega arith
  entered-weight m es (Some list) is = let e = with-weight list (list ++ m ∷ []) es is in let p = weigh-push (g r) list m in omega arith

abbrev told_weight : (Root → AckMsg → ℕ) → List Told → ℕ
told_weight g told = weigh (λ (x : Told). weigh (g x.root) x.list) told

pub met-weight : (g : Root → AckMsg → ℕ) (m : AckMsg) (es : List (Held (List AckMsg))) → weigh_entries g (met m es) + told_weight g (telling m es) ≡ weigh_entries g es + g (root_of m) m
met-weight g m es = cases (told_of m es)
  where
    cases : (o : Option Verdict) → weigh_entries g (settled (root_of m) (value_of (root_of m) es) (list_with m es) es (is_some o)) + told_weight g (telling_by (root_of m) (list_with m es) o) ≡ weigh_entries g es + g (root_of m) m
    cases None = let e = entered-weight g (root_of m) m es (value_of (root_of m) es) refl in omega arith
    cases (Some v) = let e = gone-weight g (root_of m) m es (value_of (root_of m) es) refl in omega arith

pub telling_told : (m : AckMsg) (es : List (Held (List AckMsg))) → AllByRecursion IsTold (telling m es)
telling_told m es = cases (told_of m es) refl
  where
    cases : (o : Option Verdict) → told_of m es ≡ o → AllByRecursion IsTold (telling_by (root_of m) (list_with m es) o)
    cases None is = tt
    cases (Some v) is = (is, tt)

pub rotated-weight : (g : Root → AckMsg → ℕ) (buckets : ℕ) (es : List (Held (List AckMsg))) → weigh_entries g (rotated buckets es) + weigh (λ (x : Root × List AckMsg). weigh (g x.0) x.1) (dropped buckets es) ≡ weigh_entries g es
rotated-weight g buckets [] = refl
rotated-weight g buckets (h ∷ hs) = cases (nat_lt (h.age + 1) buckets) (rotated-weight g buckets hs)
  where
    cases : (b : Bool) → weigh_entries g (rotated buckets hs) + weigh (λ (x : Root × List AckMsg). weigh (g x.0) x.1) (dropped buckets hs) ≡ weigh_entries g hs
        → weigh_entries g (cond b (record h { age = h.age + 1 } ∷ rotated buckets hs) (rotated buckets hs)) + weigh (λ (x : Root × List AckMsg). weigh (g x.0) x.1) (cond b (dropped buckets hs) ((h.root, h.value) ∷ dropped buckets hs)) ≡ weigh_entries g (h ∷ hs)
    cases true rest = omega arith
    cases false rest = omega arith

-- ---- moves

module _ (t : Topology) (custom : Custom) where
  pub moves-start : (source at count : ℕ) → Moves t custom (giving source at) (starting source at count) (giving source (at + count))
  moves-start source at count = record {
    packets = λ f. omega arith;
    notes = λ g. omega arith;
    draws = λ s j. let e = spans-more source at count s j in omega arith;
    well = record { begun = tt; runs = tt; told = tt };
  }

  pub moves-begin : (o : Opening) → IsOpening t o
      → Moves t custom (giving o.begun.source o.begun.at) (opening o) (beside (holding (map of_parcel (opening_parcels t o))) (giving o.begun.source (o.begun.at + length o.begun.ids)))
  moves-begin o is = record {
    packets = λ f. let e = weigh-map f of_parcel (opening_parcels t o) in omega arith;
    notes = λ g. omega arith;
    draws = λ s j. let e = spans-more o.begun.source o.begun.at (length o.begun.ids) s j in omega arith;
    well = record { begun = (is, tt); runs = tt; told = tt };
  }

  pub moves-execute : (e : Execution) → IsExecution t custom e
      → Moves t custom (beside (holding (of_parcel (ToTask e.run.task e.run.tuple) ∷ [])) (giving e.run.task e.run.at)) (executing e)
      (beside (holding (map of_parcel (execution_parcels t custom e))) (giving e.run.task (e.run.at + length e.run.ids)))
  moves-execute e is = record {
    packets = λ f. let w = weigh-map f of_parcel (execution_parcels t custom e) in omega arith;
    notes = λ g. omega arith;
    draws = λ s j. let w = spans-more e.run.task e.run.at (length e.run.ids) s j in omega arith;
    well = record { begun = tt; runs = (is, tt); told = tt };
  }

  pub moves-meet : (acker : ℕ) (m : AckMsg) (es : List (Held (List AckMsg)))
      → Moves t custom (beside (holding (of_parcel (ToAcker acker m) ∷ [])) (keeping es)) (meeting acker m es)
      (beside (holding (verdicts_of (telling m es))) (keeping (met m es)))
  moves-meet acker m es = record {
    packets = λ f. let w = weigh-map f (λ (x : Told). of_verdict x.verdict) (telling m es) in omega arith;
    notes = λ g. let w = met-weight g m es in omega arith;
    draws = λ s j. omega arith;
    well = record { begun = tt; runs = tt; told = telling_told m es };
  }

  pub moves-rotate : (buckets : ℕ) (es : List (Held (List AckMsg))) → Moves t custom (keeping es) (dropping buckets es) (keeping (rotated buckets es))
  moves-rotate buckets es = record {
    packets = λ f. omega arith;
    notes = λ g. let w = rotated-weight g buckets es in omega arith;
    draws = λ s j. omega arith;
    well = record { begun = tt; runs = tt; told = tt };
  }
