use Rattle.std.proofs.Common.{◌≡◌, ◌∙◌, ◌∷◌, [], All, arith}
use Rattle.std.proofs.lemmas.Grind.{common_steps}
use Rattle.std.proofs.lemmas.List.Elements.{All-tail}
use Rattle.std.proofs.lemmas.Result.{on_ok_weaker}
use Rattle.std.specs.Vec.Iter.{into_iter_items}
use Rattle.tree_model.specs.storm_values.Rows.{IsRow}
use Rattle.tree_model.specs.topology_plan.declared.parts.Origin.TheVariants as origin
use Rattle.tree_model.specs.topology_plan.Wired.{width_of}
use Rattle.track_runs.proofs.Filling.{counts_end}
use Rattle.track_runs.proofs.tracking.Tracking.track_all.Goals as goal

pub loop-row-preserved : goal.loop-row-preserved
loop-row-preserved g c =
    let head : into_iter_items c.loop-row.row-iterator ≡ c.in-Some.row ∷ into_iter_items c.next.new.self = grind (arith, common_steps) in
    let left : All (IsRow (width_of c.args.self.now.plan.now origin.Spout)) (c.in-Some.row ∷ into_iter_items c.next.new.self) = rw head at c.loop-row.invariant.left in
    record {
      can_go_on = tt;
      will_end = tt;
      few = c.in_ok-take_in.ensures.few;
      rows = c.in_ok-take_in.ensures.rows;
      left = All-tail (IsRow (width_of c.args.self.now.plan.now origin.Spout)) c.in-Some.row (into_iter_items c.next.new.self) left;
      components = c.in_ok-take_in.ensures.length ∙ c.loop-row.invariant.components;
      ends = c.in_ok-take_in.ensures.ends (into_iter_items c.next.new.self) ∙ (rw head at c.loop-row.invariant.ends);
      counts = λ state key. c.in_ok-take_in.ensures.counts (into_iter_items c.next.new.self) state key ∙ (rw head at c.loop-row.invariant.counts) state key;
    }

pub returns-clause-counts : goal.returns-clause-counts
returns-clause-counts g c =
    let none : into_iter_items c.loop-row.row-iterator ≡ [] = grind (arith, common_steps) in
    on_ok_weaker c.track_some.result (λ adds. counts_end c.args.self.now.plan.now (g.O.RowOp.meaning c.args.self.now.custom.now) c.args.tallies.now c.loop-row.tallies c.track_some.new.tallies c.args.rows.items c.loop-row.window.items (into_iter_items c.loop-row.row-iterator) none c.loop-row.invariant.counts adds) c.track_some.ensures.counts
