use Rattle.std.proofs.Common.{◌≡◌, ◌∙◌, refl, subst, sym, ap, rules}
use Rattle.std.proofs.lemmas.Result.{on_ok_weaker}
use Rattle.fold_tables.specs.Pieces.{MergesAt, fold_by, pairs_by}
use Rattle.fold_tables.proofs.Running.{merges_state}
use Rattle.fold_tables.proofs.piece.merge_state.Goals as goal

pub returns-in-State-clause-merges : goal.returns-in-State-clause-merges
returns-in-State-clause-merges g c =
    on_ok_weaker c.merge_all.result
    (λ merge. rw c.in-State.is
    (merges_state (g.O.RowOp.meaning c.args.custom.now) c.in-State.spec.fold c.args.place c.args.states.now.items c.args.later.now.items c.index_mut-in-State.result.now c.replace-others.result c.merge_all.new.entries c.replace-others.new.dest
    c.requires.here c.requires.there (search rules) (search rules) merge))
    c.merge_all.ensures
