use Rattle.std.proofs.lemmas.Result.{on_ok_weaker, on_err_weaker}
use Rattle.storm_stores.specs.CellMaps.{cell_at}
use Rattle.tree_model.specs.Tables.{folded}
use Rattle.state_cells.specs.Groups.{jobs_in, restores_in}
use Rattle.state_cells.specs.Turns.{job_at}
use Rattle.state_cells.proofs.JobLemmas.{bad_before}
use Rattle.state_cells.proofs.WorkLemmas.{apart_left, apart_right, both_broken, both_done, first_broken}
use Rattle.state_cells.proofs.commit.commit_jobs.Goals as goal

pub returns-in-Ok-clause-ok : goal.returns-in-Ok-clause-ok
returns-in-Ok-clause-ok g c = on_ok_weaker c.commit_restores.result
    (λ then apart. both_done g.C.CellStore.tells c.args.batch.kind (folded (g.O.RowOp.meaning c.args.custom.now) c.args.batch.by) c.args.batch.root (jobs_in c.args.groups.now) (restores_in c.args.keys.now) c.args.store.now c.commit_groups.new.store c.commit_restores.new.store
    apart (c.in-Ok.ensures.ok (apart_left (jobs_in c.args.groups.now) (restores_in c.args.keys.now) apart)) (then (apart_right (jobs_in c.args.groups.now) (restores_in c.args.keys.now) apart)))
    c.commit_restores.ensures.ok

pub returns-in-Ok-clause-err : goal.returns-in-Ok-clause-err
returns-in-Ok-clause-err g c = on_err_weaker c.commit_restores.result
    (λ then apart. both_broken g.C.CellStore.tells c.args.batch.kind (folded (g.O.RowOp.meaning c.args.custom.now) c.args.batch.by) c.args.batch.root (jobs_in c.args.groups.now) (restores_in c.args.keys.now) c.args.store.now c.commit_groups.new.store c.commit_restores.new.store
    apart (c.in-Ok.ensures.ok (apart_left (jobs_in c.args.groups.now) (restores_in c.args.keys.now) apart)) (then (apart_right (jobs_in c.args.groups.now) (restores_in c.args.keys.now) apart)))
    c.commit_restores.ensures.err

pub returns-in-Ok-clause-bad : goal.returns-in-Ok-clause-bad
returns-in-Ok-clause-bad g c = λ k is apart cells told.
    let x = (c.in-Ok.ensures.ok (apart_left (jobs_in c.args.groups.now) (restores_in c.args.keys.now) apart)).to cells told in
    bad_before c.args.batch.kind (folded (g.O.RowOp.meaning c.args.custom.now) c.args.batch.by) c.args.batch.root (job_at (jobs_in c.args.groups.now) k) (cell_at cells k) (cell_at x.0 k) (x.2 k)
    (c.commit_restores.ensures.bad k is (apart_right (jobs_in c.args.groups.now) (restores_in c.args.keys.now) apart) x.0 x.1)

pub returns-in-Err-clause-err : goal.returns-in-Err-clause-err
returns-in-Err-clause-err g c = λ apart.
    first_broken g.C.CellStore.tells c.args.batch.kind (folded (g.O.RowOp.meaning c.args.custom.now) c.args.batch.by) c.args.batch.root (jobs_in c.args.groups.now) (restores_in c.args.keys.now) c.args.store.now c.commit_groups.new.store c.commit_groups.new.store
    (c.in-Err.ensures.err (apart_left (jobs_in c.args.groups.now) (restores_in c.args.keys.now) apart))

pub returns-in-Err-clause-bad : goal.returns-in-Err-clause-bad
returns-in-Err-clause-bad g c = λ k is apart cells told. c.in-Err.ensures.bad k is (apart_left (jobs_in c.args.groups.now) (restores_in c.args.keys.now) apart) cells told
