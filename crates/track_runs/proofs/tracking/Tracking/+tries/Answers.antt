use Rattle.std.proofs.Common.{◌≡◌, ◌+◌, ◌-◌, map, suc, arith, rules}
use Rattle.std.proofs.lemmas.Result.{IfOk-weaker}
use Rattle.tracked_trees.specs.Reached.{is_good}
use Rattle.tree_model.specs.storm_values.Rows.{IsRow}
use Rattle.tree_model.specs.topology_plan.declared.parts.Origin.TheVariants as origin
use Rattle.tree_model.specs.topology_plan.Wired.{width_of}
use Rattle.track_runs.specs.Steps.{end_from, open_rows}
use Rattle.track_runs.proofs.Ending.{counts_last, ends_last, left_few, left_within, on_any, tried_counts, tried_ends}
use Rattle.track_runs.proofs.tracking.Tracking.+tries.Goals as goal

pub returns-then-more-eq0-clause-ends : goal.returns-then-more-eq0-clause-ends
returns-then-more-eq0-clause-ends g t c =
    IfOk-weaker c.none_left.result _ _ (λ ends is. ends_last c.args.self.now.plan.now (g.O.RowOp.meaning c.args.self.now.custom.now) c.args.before c.args.more _ c.args.rows.items ends.items c.if-more-eq0.true (search rules) is) c.none_left.ensures

pub returns-then-more-eq0-clause-counts : goal.returns-then-more-eq0-clause-counts
returns-then-more-eq0-clause-counts g t c =
    on_any c.none_left.result (counts_last c.args.self.now.plan.now (g.O.RowOp.meaning c.args.self.now.custom.now) c.args.before c.args.more c.args.rows.items c.args.tallies.now c.if-more-eq0.true c.facts.ensures)

pub tries-requires-clause-few : goal.tries-requires-clause-few
tries-requires-clause-few g t c κs within =
    let acked : c.in_ok-acked.acked.items ≡ map (is_good c.args.self.now.plan.now (g.O.RowOp.meaning c.args.self.now.custom.now) (c.args.before + 1)) c.args.rows.items = search rules in
    let left : c.in_ok-left.left.items ≡ open_rows c.args.rows.items c.in_ok-acked.acked.items = search rules in
    left_few c.args.self.now.plan.now (g.O.RowOp.meaning c.args.self.now.custom.now) (c.args.before + 1) c.args.rows.items c.in_ok-left.left.items c.in_ok-acked.acked.items 1024 acked left c.requires.few

pub tries-requires-clause-rows : goal.tries-requires-clause-rows
tries-requires-clause-rows g t c κs within =
    let acked : c.in_ok-acked.acked.items ≡ map (is_good c.args.self.now.plan.now (g.O.RowOp.meaning c.args.self.now.custom.now) (c.args.before + 1)) c.args.rows.items = search rules in
    let left : c.in_ok-left.left.items ≡ open_rows c.args.rows.items c.in_ok-acked.acked.items = search rules in
    left_within c.args.self.now.plan.now (g.O.RowOp.meaning c.args.self.now.custom.now) (IsRow (width_of c.args.self.now.plan.now origin.Spout)) (c.args.before + 1) c.args.rows.items c.in_ok-left.left.items c.in_ok-acked.acked.items acked left c.requires.rows

pub returns-clause-ends : goal.returns-clause-ends
returns-clause-ends g t c =
    let acked : c.in_ok-acked.acked.items ≡ map (is_good c.args.self.now.plan.now (g.O.RowOp.meaning c.args.self.now.custom.now) (c.args.before + 1)) c.args.rows.items = search rules in
    let left : c.in_ok-left.left.items ≡ open_rows c.args.rows.items c.in_ok-acked.acked.items = search rules in
    let later : c.in_ok-later.later.items ≡ map (end_from c.args.self.now.plan.now (g.O.RowOp.meaning c.args.self.now.custom.now) (c.args.before + 1) (c.args.more - 1)) c.in_ok-left.left.items = search rules in
    let now : c.args.before + 1 ≡ suc c.args.before = omega arith in
    let one : c.args.more ≡ suc (c.args.more - 1) = omega (arith, c.if-more-eq0.false) in
    IfOk-weaker c.merged.result _ _ (λ made is. tried_ends c.args.self.now.plan.now (g.O.RowOp.meaning c.args.self.now.custom.now) c.args.before (c.args.before + 1) c.args.more (c.args.more - 1) c.args.rows.items c.in_ok-left.left.items c.in_ok-acked.acked.items now one acked left c.in_ok-later.later.items made.items later (rw (← c.as_slice-3.ensures.value, ← c.as_slice-4.ensures.value) is)) c.merged.ensures

pub returns-clause-counts : goal.returns-clause-counts
returns-clause-counts g t c =
    let acked : c.in_ok-acked.acked.items ≡ map (is_good c.args.self.now.plan.now (g.O.RowOp.meaning c.args.self.now.custom.now) (c.args.before + 1)) c.args.rows.items = search rules in
    let left : c.in_ok-left.left.items ≡ open_rows c.args.rows.items c.in_ok-acked.acked.items = search rules in
    let now : c.args.before + 1 ≡ suc c.args.before = omega arith in
    let one : c.args.more ≡ suc (c.args.more - 1) = omega (arith, c.if-more-eq0.false) in
    let first = rw c.as_slice.ensures.value at c.in_ok-acked.ensures.counts in
    on_any c.merged.result (tried_counts c.args.self.now.plan.now (g.O.RowOp.meaning c.args.self.now.custom.now) c.args.before (c.args.before + 1) c.args.more (c.args.more - 1) c.args.rows.items c.in_ok-left.left.items c.in_ok-acked.acked.items now one acked left c.args.tallies.now c.try_once.new.tallies c.tries.new.tallies first c.in_ok-later.ensures.counts)
