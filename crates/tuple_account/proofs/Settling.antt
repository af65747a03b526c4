-- Where no work is left, each pending attempt is settled.
use Rattle.std.proofs.Common.{◌≡◌, ◌≢◌, ◌≤◌, ℕ, cond, None, List, refl, ap, arith}
use Rattle.std.specs.List.{AllByRecursion}
use Rattle.acker_core.specs.declared.verdict.Verdict.{Verdict}
use Rattle.acker_core.specs.declared.verdict.Verdict.TheVariants.{Complete, Fails}
use Rattle.tree_model.specs.bolt_ops.RowOp.{Custom}
use Rattle.tree_model.specs.counted_items.Weights.{weigh}
use Rattle.tree_model.proofs.counted_items.Each.{each-weaker, each-both}
use Rattle.tree_model.proofs.counted_items.Weighing.{weigh-zero, weigh-le_each, each-weighs}
use Rattle.rotating_ledger.specs.Held.{Held}
use Rattle.tree_model.specs.storm_values.declared.value.Root.{Root}
use Rattle.tree_model.specs.topology_plan.Topology.{Topology}
use Rattle.tree_model.specs.tuple_tickets.Roots.{root_eq}
use Rattle.tree_model.proofs.tuple_tickets.Roots.{root_itself}
use Rattle.tree_model.specs.declared.messages.AckMsg.{AckMsg}
use Rattle.tuple_account.specs.Ends.{Ended, Waits, Desk}
use Rattle.tuple_account.specs.Fits.{Fits}
use Rattle.tuple_account.specs.Histories.{Execution, Receipt, Told, History, IsTold}
use Rattle.tuple_account.specs.Moves.{Station, Reached}
use Rattle.tuple_account.specs.Sound.{is_about, tells}
use Rattle.tuple_account.specs.Stuck.{IsStuck}
use Rattle.tuple_account.proofs.Reading.{packets}
use Rattle.tuple_account.proofs.Sending.{on_verdict, issued_verdicts}
use Rattle.tuple_account.proofs.Stuck.{was_told}
use Rattle.tuple_account.proofs.Telling.{Says, says}

tells_about : (root : Root) (x : Told) → IsTold x → tells root x ≤ is_about root x.verdict
tells_about root x is = by x.verdict (says x is)
  where
    by : (v : Verdict) → Says x.root x.list v → tells root x ≤ is_about root v
    by (Complete r l) s = let e : is_about root (Complete r l) ≡ tells root x = ap (λ (q : Root). cond {A = ℕ} (root_eq q root) 1 0) s.0 in omega arith
    by (Fails r path) s = let e : is_about root (Fails r path) ≡ tells root x = ap (λ (q : Root). cond {A = ℕ} (root_eq q root) 1 0) s.0 in omega arith

module _ (t : Topology) (custom : Custom) (h : History) (b : Station) (reached : Reached t custom h b) (entries : List (Held (List AckMsg))) (stuck : IsStuck t custom h b entries) (desk : Desk) (fates : List Ended) (fits : Fits t desk fates h) where
  -- all that was told was heard
  heard_all : (f : Verdict → ℕ) → weigh f h.heard ≡ weigh (λ (x : Told). f x.verdict) h.told
  heard_all f =
      let p = packets t custom h b reached (on_verdict f) in
      let n = stuck.none_waits (on_verdict f) in
      let i = issued_verdicts t custom f h in
      let r = weigh-zero (λ (e : Execution). 0) (λ e. refl) h.runs in
      let m = weigh-zero (λ (x : Receipt). 0) (λ x. refl) h.met in omega arith

  settled_one : (w : Waits) → ((f : Waits → ℕ) → f w ≤ weigh f desk.pending) × (w.settled ≡ None → weigh (is_about w.root) h.heard ≡ 0) → w.settled ≢ None
  settled_one w both none =
      let here : cond {A = ℕ} (root_eq w.root w.root) 1 0 ≡ 1 = rw (root_itself w.root w.root refl) refl in
      let s = both.0 (λ (v : Waits). cond (root_eq v.root w.root) 1 0) in
      let e = fits.begun (λ (r : Root). cond (root_eq r w.root) 1 0) in
      let told = was_told t custom h b reached entries stuck w.root (omega arith) in
      let l = weigh-le_each (tells w.root) (λ (x : Told). is_about w.root x.verdict) IsTold (tells_about w.root) h.told reached.moves.well.told in
      let a = heard_all (is_about w.root) in
      let z = both.1 none in absurd (omega arith)

  -- each pending attempt is settled
  pub settled : AllByRecursion (λ (w : Waits). w.settled ≢ None) desk.pending
  settled = each-weaker (λ (w : Waits). ((f : Waits → ℕ) → f w ≤ weigh f desk.pending) × (w.settled ≡ None → weigh (is_about w.root) h.heard ≡ 0)) (λ (w : Waits). w.settled ≢ None) settled_one desk.pending
      (each-both (λ (w : Waits). (f : Waits → ℕ) → f w ≤ weigh f desk.pending) (λ (w : Waits). w.settled ≡ None → weigh (is_about w.root) h.heard ≡ 0) desk.pending (each-weighs desk.pending) fits.unheard)
