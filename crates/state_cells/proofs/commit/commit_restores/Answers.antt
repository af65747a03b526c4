use Rattle.std.proofs.Common.{◌≤◌, rules, subst, ◌∙◌, ap, sym, take, List, Some}
use Rattle.std.proofs.lemmas.List.{take_all}
use Rattle.std.proofs.lemmas.Option.{slice_get-get_or}
use Rattle.std.specs.Prelude.{IsErrOf, ℕ, length}
use Rattle.tree_model.specs.storm_values.Counts.{raised}
use Rattle.storm_stores.specs.CellMaps.{cell_at}
use Rattle.tree_model.specs.Tables.{folded}
use Rattle.state_cells.specs.declared.fault.PartFault.TheVariants.{BadCell, Store}
use Rattle.state_cells.specs.Groups.{restores_in}
use Rattle.state_cells.specs.Turns.{IsWorked, Job, Turns, job_at}
use Rattle.state_cells.proofs.JobLemmas.{bad_before, work_broken_at, work_more_at}
use Rattle.state_cells.proofs.OnErr.{on_err}
use Rattle.state_cells.proofs.RestoreLemmas.{restore_of, restore_here, length-restores}
use Rattle.state_cells.proofs.commit.commit_restores.Goals as goal

pub loop-key-preserved : goal.loop-key-preserved
loop-key-preserved g c = record {
  worked = λ apart. work_more_at g.C.CellStore.tells c.args.batch.kind (folded (g.O.RowOp.meaning c.args.custom.now) c.args.batch.by) c.args.batch.root (restores_in c.args.keys.now) c.loop-key.key-index (restore_of c.key-item.result)
      c.args.store.now c.loop-key.store c.commit_key.new.store apart (restore_here c.args.keys.now c.loop-key.key-index c.key-item.result (slice_get-get_or c.args.keys.now c.loop-key.key-index c.key-item.result c.loop-key-test.true ∙ ap Some (sym c.key-item.is))) (c.loop-key.invariant.worked apart)
      (rw (← c.as_slice.ensures) c.in_ok-commit_key.ensures.ok);
  told_before = λ cells told.
      let x = c.commit_key.ensures.told_before cells told in
      c.loop-key.invariant.told_before x.0 x.1;
  quiet = c.in_ok-commit_key.ensures.quiet (λ is. cc) ∙ c.loop-key.invariant.quiet;
}

pub returns-in_err-commit_key-clause-err : goal.returns-in_err-commit_key-clause-err
returns-in_err-commit_key-clause-err g c = on_err c.from_residual.result (λ apart.
    work_broken_at g.C.CellStore.tells c.args.batch.kind (folded (g.O.RowOp.meaning c.args.custom.now) c.args.batch.by) c.args.batch.root (restores_in c.args.keys.now) c.loop-key.key-index (restore_of c.key-item.result)
    c.args.store.now c.loop-key.store c.commit_key.new.store apart (restore_here c.args.keys.now c.loop-key.key-index c.key-item.result (slice_get-get_or c.args.keys.now c.loop-key.key-index c.key-item.result c.loop-key-test.true ∙ ap Some (sym c.key-item.is))) (c.loop-key.invariant.worked apart)
    (rw (← c.as_slice.ensures) c.in_err-commit_key.ensures.err))

pub returns-in_err-commit_key-clause-bad : goal.returns-in_err-commit_key-clause-bad
returns-in_err-commit_key-clause-bad g c = λ k is apart cells told.
    let x = (c.loop-key.invariant.worked apart).to cells told in
    let same : IsErrOf c.commit_key.result (BadCell k) = search rules in
    bad_before c.args.batch.kind (folded (g.O.RowOp.meaning c.args.custom.now) c.args.batch.by) c.args.batch.root (job_at (take c.loop-key.key-index (restores_in c.args.keys.now)) k) (cell_at cells k) (cell_at x.0 k) (x.2 k)
    (c.commit_key.ensures.bad k same x.0 x.1)

pub returns-in_err-commit_key-clause-failed : goal.returns-in_err-commit_key-clause-failed
returns-in_err-commit_key-clause-failed g c = λ is.
    let same : IsErrOf c.commit_key.result Store = search rules in
    c.commit_key.ensures.failed same ∙ ap raised c.loop-key.invariant.quiet

pub returns-in_err-commit_key-clause-quiet : goal.returns-in_err-commit_key-clause-quiet
returns-in_err-commit_key-clause-quiet g c = λ other.
    c.commit_key.ensures.quiet (λ (is : IsErrOf c.commit_key.result Store). other (search rules)) ∙ c.loop-key.invariant.quiet

pub returns-clause-quiet : goal.returns-clause-quiet
returns-clause-quiet g c = λ other. c.loop-key.invariant.quiet

pub returns-clause-ok : goal.returns-clause-ok
returns-clause-ok g c = λ apart.
    let all : length (restores_in c.args.keys.now) ≤ c.loop-key.key-index = subst (λ (n : ℕ). n ≤ c.loop-key.key-index) (sym (length-restores c.args.keys.now)) c.loop-key-test.false in
    subst (λ (xs : List Job). Turns g.C.CellStore.tells (λ key. IsWorked c.args.batch.kind (folded (g.O.RowOp.meaning c.args.custom.now) c.args.batch.by) c.args.batch.root (job_at xs key)) c.args.store.now c.loop-key.store)
    (take_all c.loop-key.key-index (restores_in c.args.keys.now) all) (c.loop-key.invariant.worked apart)
