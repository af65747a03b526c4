use Rattle.std.proofs.lemmas.Result.{on_ok_weaker, on_err_weaker}
use Rattle.tree_model.specs.Tables.{folded}
use Rattle.state_cells.specs.Groups.{amounts_in, jobs_of}
use Rattle.state_cells.proofs.KnownLemmas.{knows_after}
use Rattle.state_cells.proofs.PlanLemmas.{plan_broken, plan_done}
use Rattle.state_cells.proofs.part.commit_batch.Goals as goal

pub returns-clause-ok : goal.returns-clause-ok
returns-clause-ok g c = on_ok_weaker c.commit_jobs-done.result
    (λ works. plan_done g.C.CellStore.tells c.args.batch.kind (folded (g.O.RowOp.meaning c.args.custom.now) c.args.batch.by) c.args.batch.root (amounts_in c.args.groups.now) (jobs_of c.args.groups.now c.deref.result.now)
    c.args.store.now c.plan.new.store c.commit_jobs-done.new.store (λ cells told. rw c.deref.ensures.value (c.in-Ok.ensures.plan cells told)) c.in-Ok.ensures.same works)
    c.commit_jobs-done.ensures.ok

pub returns-clause-err : goal.returns-clause-err
returns-clause-err g c = on_err_weaker c.commit_jobs-done.result
    (λ works. plan_broken g.C.CellStore.tells c.args.batch.kind (folded (g.O.RowOp.meaning c.args.custom.now) c.args.batch.by) c.args.batch.root (amounts_in c.args.groups.now) (jobs_of c.args.groups.now c.deref.result.now)
    c.args.store.now c.plan.new.store c.commit_jobs-done.new.store (λ cells told. rw c.deref.ensures.value (c.in-Ok.ensures.plan cells told)) c.in-Ok.ensures.same works)
    c.commit_jobs-done.ensures.err

pub returns-clause-known : goal.returns-clause-known
returns-clause-known g c = knows_after g.C.CellStore.tells g.met.C.CellStore.one_map c.args.batch.kind (folded (g.O.RowOp.meaning c.args.custom.now) c.args.batch.by) c.args.batch.root c.in-Ok.work.is_newest (jobs_of c.args.groups.now c.in-Ok.work.restores.items)
    c.args.store.now c.plan.new.store c.commit_jobs-done.new.store c.commit_jobs-done.result _ c.known_after.ensures
    (λ cells told. (c.in-Ok.ensures.plan cells told).apart) c.in-Ok.ensures.known c.in-Ok.ensures.told_before
    (rw (← c.deref.ensures.value) c.commit_jobs-done.ensures.ok) (rw (← c.deref.ensures.value) c.commit_jobs-done.ensures.err) c.commit_jobs-done.ensures.told_before

pub returns-clause-bad : goal.returns-clause-bad
returns-clause-bad g c = λ k is cells told.
    c.commit_jobs-done.ensures.bad k is (rw c.deref.ensures.value (c.in-Ok.ensures.plan cells told).apart) cells (c.in-Ok.ensures.same cells told)
