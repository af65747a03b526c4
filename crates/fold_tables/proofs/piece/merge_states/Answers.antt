use Rattle.std.proofs.Common.{◌≡◌, ◌∙◌, length, sym, arith}
use Rattle.fold_tables.specs.Pieces.{pairs_by}
use Rattle.fold_tables.proofs.Running.{length-pairs_by, merged_all, merged_more, merged_none}
use Rattle.fold_tables.proofs.piece.merge_states.Goals as goal

pub loop-number-init : goal.loop-number-init
loop-number-init g c = record {
  count = c.requires.length;
  count_later = c.requires.later;
  merged = merged_none c.args.plan.now (g.O.RowOp.meaning c.args.custom.now) (pairs_by c.args.states.now.items) (pairs_by c.args.later.items);
}

pub loop-number-preserved : goal.loop-number-preserved
loop-number-preserved g c =
    let now = c.loop-number.invariant in
    record {
      count = c.in_ok-merge_state.ensures.count ∙ now.count;
      count_later = c.in_ok-merge_state.ensures.count_later ∙ now.count_later;
      merged = merged_more c.args.plan.now (g.O.RowOp.meaning c.args.custom.now) (pairs_by c.args.states.now.items) (pairs_by c.args.later.items) c.loop-number.number c.component.result.now (pairs_by c.loop-number.states.items) (pairs_by c.loop-number.later.items) (pairs_by c.merge_state.new.states.items) (pairs_by c.merge_state.new.later.items)
          c.component.ensures.value now.merged c.in_ok-merge_state.ensures.merges;
    }

pub returns-clause-merged : goal.returns-clause-merged
returns-clause-merged g c =
    let now = c.loop-number.invariant in
    let all : c.loop-number.number ≡ length c.args.plan.now.components = omega (arith, c.components-number-end.ensures) in
    merged_all c.args.plan.now (g.O.RowOp.meaning c.args.custom.now) (pairs_by c.args.states.now.items) (pairs_by c.args.later.items) (pairs_by c.loop-number.states.items) (pairs_by c.loop-number.later.items)
    (length-pairs_by c.loop-number.states.items ∙ now.count ∙ sym c.requires.length ∙ sym (length-pairs_by c.args.states.now.items)) (rw all at now.merged)
