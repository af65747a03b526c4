use Rattle.std.proofs.Common.{◌++◌, ◌∙◌, ap}
use Rattle.std.proofs.lemmas.Result.{on_ok_weaker}
use Rattle.track_runs.proofs.Ending.{adds_same, counts_tried, ends_tried, on_any}
use Rattle.track_runs.specs.Steps.{count_up}
use Rattle.tracked_trees.specs.Tries.{count_of}
use Rattle.tree_model.specs.counted_items.Weights.{weigh}
use Rattle.track_runs.proofs.tracking.Tracking.track_some.Goals as goal

pub returns-clause-ends : goal.returns-clause-ends
returns-clause-ends g c =
    let same = ends_tried c.args.self.now.plan.now (g.O.RowOp.meaning c.args.self.now.custom.now) c.args.self.now.plan.now.attempts c.args.rows.items in
    on_ok_weaker c.add_ends.result (λ is. is ∙ ap (λ more. c.args.ends.now.items ++ more) (c.as_slice.ensures.value ∙ (rw c.attempts.ensures at c.in_ok-made.ensures.ends) ∙ same)) c.add_ends.ensures

pub returns-clause-counts : goal.returns-clause-counts
returns-clause-counts g c =
    let t = c.args.self.now.plan.now in
    let custom = g.O.RowOp.meaning c.args.self.now.custom.now in
    on_any c.add_ends.result (adds_same c.args.tallies.now c.tries.new.tallies (λ state key. weigh (count_up t custom state key 0 t.attempts) c.args.rows.items) (λ state key. weigh (count_of t custom state key t.attempts) c.args.rows.items)
    (λ state key. counts_tried t custom state key t.attempts c.args.rows.items) (rw c.attempts.ensures at c.in_ok-made.ensures.counts))
