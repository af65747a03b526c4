-- What a turn comes to.
use Rattle.std.proofs.Common.{◌≡◌, ℕ, zero, suc, Bool, true, false, Option, Some, None, refl, ap, ◌∙◌}
use Rattle.std.specs.Prelude.{OnOk, Result, Ok, Err}
use Rattle.std.specs.Result.{is_err}
use Rattle.tuple_account.specs.acker_core.declared.verdict.Verdict.{Verdict}
use Rattle.commit_order.specs.Offices.{IsCommitOf, Office}
use Rattle.commit_order.specs.Orders.{Begins, TurnsTo, collector_of, cut_of, desk_of, office_of, plan_of, stop_by, stop_of, wanted_memory}
use Rattle.commit_order.specs.declared.coordinator.Coordinator.{Coordinator}
use Rattle.commit_order.specs.declared.coordinator.Orders.{Orders}
use Rattle.commit_turns.specs.Desks.{Desk, Progress}
use Rattle.commit_turns.specs.Turns.{begun, fill_more, filled, heard, next_to_commit, ordered, passed, turned, turned_by, next_wait}
use Rattle.tuple_account.specs.topology_plan.Topology.{Topology}
use Rattle.taken_records.specs.Cuts.{Cut}
use Rattle.commit_turns.specs.declared.wait.Wait.{Wait}

pub ok_of : {X E A : Type 0} (r : Result X E) → is_err r ≡ false → OnOk r A → A
ok_of (Ok x) ok a = a
ok_of (Err e) ok a = absurd (cc)

some_none : {X : Type 0} (x : X) → Some x ≡ None → ⊥
some_none x e = cc

pub has_memory_by : (b : Bool) (o : Option ℕ) → stop_by b o ≡ None → b ≡ false
has_memory_by true o is = absurd (some_none _ is)
has_memory_by false o is = refl

-- beginning attempts does not stop the coordinator
filled-exhausted : (t : Topology) (cut : Cut) (shut n : ℕ) (d : Desk) → (filled t cut shut n d).desk.exhausted ≡ d.exhausted
filled-exhausted t cut shut zero d = refl
filled-exhausted t cut shut (suc n) d = by (next_wait t cut shut d) (λ w. filled-exhausted t cut shut n (begun t cut w d))
  where
    by : (o : Option Wait) → ((w : Wait) → (filled t cut shut n (begun t cut w d)).desk.exhausted ≡ d.exhausted)
        → (fill_more t cut (filled t cut shut n) d o).desk.exhausted ≡ d.exhausted
    by None more = refl
    by (Some w) more = more w

module _ {I : Type 0} (tells : I → (ℕ → ℕ) → ℕ → Type 0) (verdict : Option Verdict) (ticks shut : ℕ) where
  pub turns_to : (old new : Coordinator I) (o : Office) (orders : Orders) → stop_of old ≡ None
      → o ≡ record (office_of old) { desk = (passed (plan_of old) (cut_of old) ticks (heard (plan_of old) (cut_of old) verdict (desk_of old))).desk }
      → o.desk.exhausted ≡ None
      → office_of new ≡ record o { desk = (filled o.topology o.cut shut o.topology.pending (ordered o.topology o.cut o.desk)).desk }
      → IsCommitOf (next_to_commit o.topology o.cut o.desk) orders.commit
      → Begins tells o.cut (collector_of old) (collector_of new) (filled o.topology o.cut shut o.topology.pending (ordered o.topology o.cut o.desk)).begun orders.parcels
      → wanted_memory new ≡ wanted_memory old
      → TurnsTo tells (plan_of old) (cut_of old) (turned (plan_of old) (cut_of old) verdict ticks shut (desk_of old)) old new orders
  turns_to old new o orders goes is none to commit begun memory =
      let t = plan_of old in
      let cut = cut_of old in
      let p : Progress = passed t cut ticks (heard t cut verdict (desk_of old)) in
      let on : p.desk.exhausted ≡ None = rw is at none in
      let turn : turned t cut verdict ticks shut (desk_of old) ≡ turned_by t cut shut None p = ap (λ e. turned_by t cut shut e p) on in
      rw turn (record {
        goes_on = filled-exhausted t cut shut t.pending (ordered t cut p.desk) ∙ on;
        office = rw is at to;
        commit = rw is at commit;
        begun = rw is at begun;
        has_memory = memory ∙ has_memory_by (wanted_memory old) (desk_of old).exhausted goes;
      })
