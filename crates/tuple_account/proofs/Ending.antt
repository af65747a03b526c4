-- Each end has its cause.
use Rattle.std.proofs.Common.{◌≡◌, ◌≤◌, ◌<◌, ℕ, ◌+◌, ◌*◌, ◌^◌, List, ◌++◌, length, map, sym, refl, ap, ◌∙◌, arith}
use Rattle.std.proofs.Math.Nat.{mul-le-mul_right}
use Rattle.std.specs.List.{AllByRecursion}
use Rattle.acker_core.specs.declared.verdict.Verdict.{Verdict}
use Rattle.acker_core.specs.declared.verdict.Verdict.TheVariants.{Complete, Fails}
use Rattle.tree_model.specs.bolt_ops.RowOp.{Custom}
use Rattle.tree_model.specs.counted_items.Weights.{weigh, Within}
use Rattle.tree_model.proofs.counted_items.Each.{each-front, each-parts, each-weaker, each-both}
use Rattle.tree_model.proofs.counted_items.Equality.{each-within}
use Rattle.tree_model.proofs.counted_items.Weighing.{weigh-append, weigh-map, weigh-flat_map, weigh-le_each, weigh-same, weigh-ones}
use Rattle.tree_model.specs.storm_values.declared.value.Root.{Root}
use Rattle.tree_model.specs.storm_values.declared.value.Value.{Value}
use Rattle.tree_model.specs.topology_plan.Topology.{Topology}
use Rattle.tree_model.specs.topology_plan.Valid.{IsValid}
use Rattle.tree_model.specs.declared.messages.AckMsg.{AckMsg}
use Rattle.tree_model.specs.Lists.{all_said}
use Rattle.tree_model.specs.Trees.{node_count}
use Rattle.tree_model.proofs.Reading.{growth, all_true_said}
use Rattle.tree_model.proofs.tuple_tickets.Words.{complete_coincides, covered_if_closed}
use Rattle.tuple_account.specs.Drawn.{AreDrawn, started}
use Rattle.tuple_account.specs.Ends.{Ending, committed, failed, timed_out, coincided, commit_failed, dropped, Ended, Desk, verdicts_by, verdicts_of_ends, verdicts_of_waits, list_in, lists_of, CauseBy, HasCause}
use Rattle.tuple_account.specs.Fits.{CheckedBy, IsEnd, Fits}
use Rattle.tuple_account.specs.Histories.{Opening, Receipt, Told, History, IsTold}
use Rattle.tuple_account.specs.Moves.{Station, Reached, AreRows, HasDrawn}
use Rattle.tuple_account.specs.Places.{before}
use Rattle.tuple_account.specs.Sound.{IsCaused}
use Rattle.tuple_account.proofs.Counting.{few_words}
use Rattle.tuple_account.proofs.Drawing.{list_drawn}
use Rattle.tuple_account.proofs.Reading.{held_met}
use Rattle.tuple_account.proofs.Routing.{verdict_code}
use Rattle.tuple_account.proofs.Telling.{heard_causes, heard_told, Says, says}

-- the messages that a verdict has
abbrev in_verdict : (AckMsg → ℕ) → Verdict → ℕ
in_verdict g (Complete root list) = weigh g list
in_verdict g (Fails root path) = 0

told_weight : (g : AckMsg → ℕ) (x : Told) → IsTold x → in_verdict g x.verdict ≤ weigh g x.list
told_weight g x is = by x.verdict (says x is)
  where
    by : (v : Verdict) → Says x.root x.list v → in_verdict g v ≤ weigh g x.list
    by (Complete r l) s = let e = ap (weigh g) s.1 in omega arith
    by (Fails r path) s = omega arith

ends_weight : (g : AckMsg → ℕ) (fates : List Ended) → weigh g (lists_of fates) ≡ weigh (in_verdict g) (verdicts_of_ends fates)
ends_weight g fates =
    weigh-flat_map g (λ (a : Ended). list_in a.ending) fates
    ∙ weigh-same (λ (a : Ended). weigh g (list_in a.ending)) (λ (a : Ended). weigh (in_verdict g) (verdicts_by a.root a.ending)) (λ a. one a.root a.ending) fates
    ∙ sym (weigh-flat_map (in_verdict g) (λ (a : Ended). verdicts_by a.root a.ending) fates)
  where
    one : (root : Root) (e : Ending) → weigh g (list_in e) ≡ weigh (in_verdict g) (verdicts_by root e)
    one root (committed list) = omega arith
    one root (failed path) = refl
    one root timed_out = refl
    one root (coincided list) = omega arith
    one root (commit_failed component part first last) = refl
    one root (dropped by) = refl

module _ (t : Topology) (custom : Custom) (h : History) (b : Station) (reached : Reached t custom h b) (rows_of : Root → List (List Value)) (rows : AreRows rows_of h.begun) (desk : Desk) (fates : List Ended) (fits : Fits t desk fates h) where
  abbrev AreCaused : Ended → Type 0
  AreCaused a = AllByRecursion (IsCaused t custom rows_of) (verdicts_by a.root a.ending)

  ends_caused : AllByRecursion AreCaused fates
  ends_caused =
      each-parts (IsCaused t custom rows_of) (λ (a : Ended). verdicts_by a.root a.ending) fates
      (each-front (IsCaused t custom rows_of) (verdicts_of_ends fates) (verdicts_of_waits desk.pending)
      (each-within verdict_code (IsCaused t custom rows_of) (verdicts_of_ends fates ++ verdicts_of_waits desk.pending) h.heard fits.heard (heard_causes t custom h b reached rows_of rows)))

  cause_of : (a : Ended) → AreCaused a → IsEnd t desk.tick a → HasCause t custom rows_of desk.tick a
  cause_of a caused is = by a.ending caused is.checked
    where
      by : (e : Ending) → AllByRecursion (IsCaused t custom rows_of) (verdicts_by a.root e) → CheckedBy t a e → CauseBy t custom (rows_of a.root) desk.tick a e
      by (committed list) all closed = (
        all.0.0,
        closed,
        covered_if_closed (growth t custom (rows_of a.root)) a.root (all_said list) (all_true_said t custom (rows_of a.root) a.root list all.0.0.is_true) (let x = all.0.1.begins in let y = all.0.0.is_single.begins in omega arith) closed,
      )
      by (failed path) all checked = all.0
      by timed_out all checked = (checked, is.finishes)
      by (coincided list) all open_list = (all.0.0, complete_coincides (all_said list) all.0.1 open_list)
      by (commit_failed component part first last) all checked = checked
      by (dropped lower) all checked = checked

  -- each end has its cause
  pub causes : AllByRecursion (HasCause t custom rows_of desk.tick) fates
  causes = each-weaker (λ (a : Ended). AreCaused a × IsEnd t desk.tick a) (HasCause t custom rows_of desk.tick) (λ a both. cause_of a both.0 both.1) fates (each-both AreCaused (IsEnd t desk.tick) fates ends_caused fits.ends)

  -- ---- drawn

  lists_met : Within (lists_of fates) (map (λ (x : Receipt). x.message) h.met)
  lists_met g =
      let e = ends_weight g fates in
      let a = weigh-append (in_verdict g) (verdicts_of_ends fates) (verdicts_of_waits desk.pending) in
      let w = fits.heard (in_verdict g) in
      let v = heard_told t custom h b reached (in_verdict g) in
      let m = weigh-map (in_verdict g) (λ (x : Told). x.verdict) h.told in
      let l = weigh-le_each (λ (x : Told). in_verdict g x.verdict) (λ (x : Told). weigh g x.list) IsTold (told_weight g) h.told reached.moves.well.told in
      let k = held_met t custom h b reached (λ r. g) in
      let n = weigh-map g (λ (x : Receipt). x.message) h.met in omega arith

  begun_few : IsValid t → length h.begun ≤ length fates + 64
  begun_few valid =
      let e = fits.begun (λ root. 1) in
      let x = weigh-ones h.begun in
      let y = weigh-ones fates in
      let z = weigh-ones desk.pending in
      let f = fits.few in
      let p = valid.pending.1 in omega arith

  module _ (valid : IsValid t) (most : ℕ) (few_nodes : AllByRecursion (λ (o : Opening). node_count t custom o.begun.rows ≤ most) h.begun) (few_starts : (s : ℕ) → started s h ≤ 40)
      (small : 40 + (length fates + 64) * most < 2 ^ 64) (counts : ℕ → ℕ) (given : (s j : ℕ) → b.given s j ≡ before (counts s) j) where
    few_given : (s : ℕ) → counts s ≤ 40 + (length fates + 64) * most
    few_given s =
        let w = few_words t custom h b reached valid most few_nodes s (counts s) (given s) in
        let k = few_starts s in
        let m : length h.begun * most ≤ (length fates + 64) * most = mul-le-mul_right most (begun_few valid) in omega arith

    -- the ids of all lists in the fates are drawn
    pub ends_drawn : (words : ℕ → ℕ → ℕ) → HasDrawn words h → AreDrawn t custom rows_of words (40 + (length fates + 64) * most) (lists_of fates)
    ends_drawn words has = list_drawn t custom h b reached rows_of rows counts given (40 + (length fates + 64) * most) few_given small (lists_of fates) lists_met words has
