use Rattle.std.proofs.Common.{◌≡◌, ◌++◌, map, rules, sym, ap, subst, ◌∙◌, List, append-nil}
use Rattle.std.specs.Prelude.{IsErrOf}
use Rattle.std.specs.Map.Iter.{deref_pair}
use Rattle.tree_model.specs.storm_values.Counts.{raised}
use Rattle.storm_stores.specs.CellMaps.{cell_at}
use Rattle.tree_model.specs.Tables.{folded}
use Rattle.state_cells.specs.declared.fault.PartFault.TheVariants.{BadCell, Store}
use Rattle.state_cells.specs.Groups.{Group, job_of}
use Rattle.state_cells.specs.Turns.{IsWorked, Turns, job_at}
use Rattle.state_cells.proofs.JobLemmas.{bad_before}
use Rattle.state_cells.proofs.OnErr.{on_err}
use Rattle.state_cells.proofs.WorkLemmas.{group_broken, group_done, parts_more}
use Rattle.state_cells.proofs.commit.commit_groups.Goals as goal

pub loop-key-preserved : goal.loop-key-preserved
loop-key-preserved g c = record {
  parts = parts_more deref_pair c.loop-key.yielded (c.in-Some.key, c.in-Some.amounts) c.loop-key.key-iterator c.next.new.self c.args.groups.now.entries c.loop-key.invariant.parts c.in-Some.ensures.steps;
  worked = λ apart. group_done g.C.CellStore.tells c.args.batch.kind (folded (g.O.RowOp.meaning c.args.custom.now) c.args.batch.by) c.args.batch.root c.loop-key.yielded (c.in-Some.key, c.in-Some.amounts) c.loop-key.key-iterator c.next.new.self c.args.groups.now.entries
      c.loop-key.invariant.parts c.in-Some.ensures.steps apart c.args.store.now c.loop-key.store c.commit_key.new.store (c.loop-key.invariant.worked apart)
      (rw (← c.as_slice.ensures) c.in_ok-commit_key.ensures.ok);
  told_before = λ cells told.
      let x = c.commit_key.ensures.told_before cells told in
      c.loop-key.invariant.told_before x.0 x.1;
  quiet = c.in_ok-commit_key.ensures.quiet (λ is. cc) ∙ c.loop-key.invariant.quiet;
}

pub returns-in_err-commit_key-clause-err : goal.returns-in_err-commit_key-clause-err
returns-in_err-commit_key-clause-err g c = on_err c.from_residual.result (λ apart.
    group_broken g.C.CellStore.tells c.args.batch.kind (folded (g.O.RowOp.meaning c.args.custom.now) c.args.batch.by) c.args.batch.root c.loop-key.yielded (c.in-Some.key, c.in-Some.amounts) c.loop-key.key-iterator c.next.new.self c.args.groups.now.entries
    c.loop-key.invariant.parts c.in-Some.ensures.steps apart c.args.store.now c.loop-key.store c.commit_key.new.store (c.loop-key.invariant.worked apart)
    (rw (← c.as_slice.ensures) c.in_err-commit_key.ensures.err))

pub returns-in_err-commit_key-clause-bad : goal.returns-in_err-commit_key-clause-bad
returns-in_err-commit_key-clause-bad g c = λ k is apart cells told.
    let x = (c.loop-key.invariant.worked apart).to cells told in
    let same : IsErrOf c.commit_key.result (BadCell k) = search rules in
    bad_before c.args.batch.kind (folded (g.O.RowOp.meaning c.args.custom.now) c.args.batch.by) c.args.batch.root (job_at (map job_of (map deref_pair c.loop-key.yielded)) k) (cell_at cells k) (cell_at x.0 k) (x.2 k)
    (c.commit_key.ensures.bad k same x.0 x.1)

pub returns-in_err-commit_key-clause-failed : goal.returns-in_err-commit_key-clause-failed
returns-in_err-commit_key-clause-failed g c = λ is.
    let same : IsErrOf c.commit_key.result Store = search rules in
    c.commit_key.ensures.failed same ∙ ap raised c.loop-key.invariant.quiet

pub returns-in_err-commit_key-clause-quiet : goal.returns-in_err-commit_key-clause-quiet
returns-in_err-commit_key-clause-quiet g c = λ other.
    c.commit_key.ensures.quiet (λ (is : IsErrOf c.commit_key.result Store). other (search rules)) ∙ c.loop-key.invariant.quiet

pub returns-clause-quiet : goal.returns-clause-quiet
returns-clause-quiet g c = λ other. c.loop-key.invariant.quiet

pub returns-clause-ok : goal.returns-clause-ok
returns-clause-ok g c = λ apart.
    let parts : map deref_pair c.loop-key.yielded ≡ c.args.groups.now.entries = sym (append-nil _) ∙ ap (λ r. map deref_pair c.loop-key.yielded ++ r) (sym c.in-None.ensures.steps.0) ∙ c.loop-key.invariant.parts in
    subst (λ (xs : List Group). Turns g.C.CellStore.tells (λ key. IsWorked c.args.batch.kind (folded (g.O.RowOp.meaning c.args.custom.now) c.args.batch.by) c.args.batch.root (job_at (map job_of xs) key)) c.args.store.now c.loop-key.store) parts (c.loop-key.invariant.worked apart)
