-- Verdicts and their causes.
use Rattle.std.proofs.Common.{◌≡◌, ◌≤◌, ◌==◌, ℕ, ◌+◌, Bool, true, false, cond, Option, None, Some, List, [], ◌∷◌, map, sym, refl, ap, subst, ◌∙◌, arith}
use Rattle.std.specs.List.{AllByRecursion}
use Rattle.acker_core.specs.Entries.{has_init, first_failed, tell_by, tell}
use Rattle.acker_core.specs.declared.verdict.Verdict.{Verdict}
use Rattle.acker_core.specs.declared.verdict.Verdict.TheVariants.{Complete, Fails}
use Rattle.acker_core.proofs.TellLemmas.{complete-told}
use Rattle.tree_model.specs.bolt_ops.RowOp.{Custom}
use Rattle.tree_model.specs.counted_items.Weights.{weigh, Within}
use Rattle.tree_model.proofs.counted_items.Each.{each-to_map, each-weaker, each-both}
use Rattle.tree_model.proofs.counted_items.Equality.{each-within}
use Rattle.tree_model.proofs.counted_items.Weighing.{weigh-map, weigh-zero, weigh-same, weigh-le_each}
use Rattle.tree_model.specs.storm_values.declared.value.Root.{Root}
use Rattle.tree_model.specs.storm_values.declared.value.Value.{Value}
use Rattle.tree_model.specs.topology_plan.Topology.{Topology}
use Rattle.tree_model.specs.tuple_tickets.Roots.{root_eq}
use Rattle.tree_model.specs.tuple_tickets.Trees.{Course, goes, fails, mute}
use Rattle.tree_model.specs.declared.messages.AckMsg.{AckMsg}
use Rattle.tree_model.specs.declared.messages.AckMsg.TheVariants as msg
use Rattle.tree_model.specs.Lists.{is_init, word, AreTrueOf, IsComplete}
use Rattle.tuple_account.specs.Accounts.{issued_notes}
use Rattle.tuple_account.specs.Issued.{Run, init_of, course_of_run, notes_by, notes_of}
use Rattle.tuple_account.specs.Histories.{opens, Opening, Execution, Told, History, IsTold}
use Rattle.tuple_account.specs.Moves.{Station, Reached, AreRows, account_of}
use Rattle.tuple_account.specs.Sound.{IsSound, FailsAt, IsCaused, is_about, tells}
use Rattle.tuple_account.proofs.Listing.{at_root, told_lists}
use Rattle.tuple_account.proofs.Reading.{packets, notes_are, met_issued, held_met}
use Rattle.tuple_account.proofs.Routing.{verdict_code}
use Rattle.tuple_account.proofs.Sending.{on_verdict, issued_verdicts}

abbrev some_or : {X : Type 0} → X → Option X → X
some_or x None = x
some_or x (Some y) = y

-- ---- what a verdict says of its list

-- by whether there is an init, the first failure, and whether the word is 0
abbrev pub SaysBy : Root → List AckMsg → Bool → Option (List ℕ) → Verdict → Type 0
SaysBy root list begun failed (Complete r l) = (r ≡ root) × (l ≡ list) × (begun ≡ true)
SaysBy root list begun failed (Fails r path) = (r ≡ root) × (failed ≡ Some path) × (begun ≡ true)

abbrev pub Says : Root → List AckMsg → Verdict → Type 0
Says root list v = SaysBy root list (has_init list) (first_failed list) v

says_by : (root : Root) (list : List AckMsg) (begun : Bool) (failed : Option (List ℕ)) (zero_word : Bool) (v : Verdict) → tell_by root list begun failed zero_word ≡ Some v → SaysBy root list begun failed v
says_by root list false failed zero_word v is = cc
says_by root list true (Some path) zero_word v is = subst (SaysBy root list true (Some path)) (ap (some_or v) is) (refl, refl, refl)
says_by root list true None true v is = subst (SaysBy root list true None) (ap (some_or v) is) (refl, refl, refl)
says_by root list true None false v is = cc

pub says : (x : Told) → IsTold x → Says x.root x.list x.verdict
says x is = says_by x.root x.list (has_init x.list) (first_failed x.list) (word x.list == 0) x.verdict is

begun_of : (root : Root) (list : List AckMsg) (begun : Bool) (failed : Option (List ℕ)) (v : Verdict) → SaysBy root list begun failed v → begun ≡ true
begun_of root list begun failed (Complete r l) s = s.2
begun_of root list begun failed (Fails r path) s = s.2

inits : (list : List AckMsg) → has_init list ≡ true → 1 ≤ weigh is_init list
inits [] is = cc
inits (msg.Init m ∷ list) is = omega arith
inits (msg.Done m ∷ list) is = let rest = inits list is in omega arith
inits (msg.Failed m ∷ list) is = let rest = inits list is in omega arith

-- ---- causes

-- the first failure of a true list is of a node that fails
cause : (t : Topology) (custom : Custom) (rows : List (List Value)) (root : Root) (path : List ℕ) (list : List AckMsg) → AreTrueOf t custom rows root list → first_failed list ≡ Some path → FailsAt t custom rows root path
cause t custom rows root path [] all is = cc
cause t custom rows root path (msg.Init m ∷ list) all is = cause t custom rows root path list all.1 is
cause t custom rows root path (msg.Done m ∷ list) all is = cause t custom rows root path list all.1 is
cause t custom rows root path (msg.Failed m ∷ list) all is = subst (FailsAt t custom rows root) (ap (some_or path) is) all.0.says_true

caused : (t : Topology) (custom : Custom) (rows_of : Root → List (List Value)) (root : Root) (list : List AckMsg) (v : Verdict) → tell root list ≡ Some v → Says root list v → IsSound t custom (rows_of root) root list → IsCaused t custom rows_of v
caused t custom rows_of root list (Complete r l) told s sound = (
  subst (λ (q : Root). IsSound t custom (rows_of q) q l) (sym s.0) (subst (IsSound t custom (rows_of root) root) (sym s.1) sound),
  subst IsComplete (sym s.1) ((complete-told root list).0 (let e : Some (Complete r l) ≡ Some (Complete root list) = λ i. Some (Complete (s.0 i) (s.1 i)) in told ∙ e)),
)
caused t custom rows_of root list (Fails r path) told s sound = subst (λ (q : Root). FailsAt t custom (rows_of q) q path) (sym s.0) (cause t custom (rows_of root) root path list sound.is_true s.1)

nothing_at : (b : Bool) → ◌≡◌ {A = ℕ} (cond b 0 0 + 0) 0
nothing_at true = omega arith
nothing_at false = omega arith

module _ (t : Topology) (custom : Custom) (h : History) (b : Station) (reached : Reached t custom h b) where
  -- what was heard was told
  pub heard_told : Within h.heard (map (λ (x : Told). x.verdict) h.told)
  heard_told f =
      let p = packets t custom h b reached (on_verdict f) in
      let i = issued_verdicts t custom f h in
      let m = weigh-map f (λ (x : Told). x.verdict) h.told in omega arith

  -- ---- one verdict a root

  -- the inits of a root's entry
  abbrev inits_at : Root → Root → AckMsg → ℕ
  inits_at root r m = cond (root_eq r root) (is_init m) 0

  tells_init : (root : Root) (x : Told) → IsTold x → tells root x ≤ weigh (inits_at root x.root) x.list
  tells_init root x is = cases (root_eq x.root root)
    where
      cases : (c : Bool) → cond c 1 0 ≤ weigh (λ (m : AckMsg). cond c (is_init m) 0) x.list
      cases true = inits x.list (begun_of x.root x.list (has_init x.list) (first_failed x.list) x.verdict (says x is))
      cases false = omega arith

  no_init : (root : Root) (u : Run) (c : Course) → weigh (at_root root is_init) (notes_by t custom u c) ≡ 0
  no_init root u goes = nothing_at (root_eq u.tuple.root root)
  no_init root u fails = nothing_at (root_eq u.tuple.root root)
  no_init root u mute = refl

  inits_issued : (root : Root) → weigh (at_root root is_init) (issued_notes t custom (account_of h b)) ≡ weigh (opens root) h.begun
  inits_issued root =
      let n = notes_are t custom h b reached (at_root root is_init) in
      let o = weigh-same (λ (o : Opening). at_root root is_init (init_of t o.begun)) (opens root) (λ o. refl) h.begun in
      let z = weigh-zero (λ (e : Execution). weigh (at_root root is_init) (notes_of t custom e.run)) (λ e. no_init root e.run (course_of_run t custom e.run)) h.runs in omega arith

  -- as many verdicts are told of a root at most as it was begun
  pub told_begun : (root : Root) → weigh (tells root) h.told ≤ weigh (opens root) h.begun
  told_begun root =
      let l = weigh-le_each (tells root) (λ (x : Told). weigh (inits_at root x.root) x.list) IsTold (tells_init root) h.told reached.moves.well.told in
      let m = held_met t custom h b reached (inits_at root) in
      let i = met_issued t custom h b reached (at_root root is_init) in
      let o = inits_issued root in omega arith

  about_is : (root : Root) (x : Told) → IsTold x → is_about root x.verdict ≤ tells root x
  about_is root x is = by x.verdict (says x is)
    where
      by : (v : Verdict) → Says x.root x.list v → is_about root v ≤ tells root x
      by (Complete r l) s = let e : is_about root (Complete r l) ≡ tells root x = ap (λ (q : Root). cond {A = ℕ} (root_eq q root) 1 0) s.0 in omega arith
      by (Fails r path) s = let e : is_about root (Fails r path) ≡ tells root x = ap (λ (q : Root). cond {A = ℕ} (root_eq q root) 1 0) s.0 in omega arith

  pub heard_begun : (root : Root) → weigh (is_about root) h.heard ≤ weigh (opens root) h.begun
  heard_begun root =
      let w = heard_told (is_about root) in
      let m = weigh-map (is_about root) (λ (x : Told). x.verdict) h.told in
      let l = weigh-le_each (λ (x : Told). is_about root x.verdict) (tells root) IsTold (about_is root) h.told reached.moves.well.told in
      let o = told_begun root in omega arith

module _ (t : Topology) (custom : Custom) (h : History) (b : Station) (reached : Reached t custom h b) (rows_of : Root → List (List Value)) (rows_are : AreRows rows_of h.begun) where
  pub told_causes : AllByRecursion (λ (x : Told). IsCaused t custom rows_of x.verdict) h.told
  told_causes = each-weaker (λ (x : Told). IsTold x × IsSound t custom (rows_of x.root) x.root x.list) (λ (x : Told). IsCaused t custom rows_of x.verdict)
      (λ x both. caused t custom rows_of x.root x.list x.verdict both.0 (says x both.0) both.1) h.told
      (each-both IsTold (λ (x : Told). IsSound t custom (rows_of x.root) x.root x.list) h.told reached.moves.well.told (told_lists t custom h b reached rows_of rows_are))

  pub heard_causes : AllByRecursion (IsCaused t custom rows_of) h.heard
  heard_causes = each-within verdict_code (IsCaused t custom rows_of) h.heard (map (λ (x : Told). x.verdict) h.told) (heard_told t custom h b reached)
      (each-to_map (IsCaused t custom rows_of) (λ (x : Told). x.verdict) h.told told_causes)
