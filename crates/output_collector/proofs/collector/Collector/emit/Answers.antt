use Rattle.std.proofs.Common.{◌≡◌, [], ◌∷◌, ◌∙◌, arith}
use Rattle.std.proofs.lemmas.Grind.{common_steps}
use Rattle.std.specs.Vec.Iter.{into_iter_items}
use Rattle.tuple_account.specs.tree_model.Trees.{kids}
use Rattle.output_collector.specs.Outlets.{tasks_for}
use Rattle.output_collector.specs.Sending.{sent}
use Rattle.output_collector.proofs.Rows.{goes_row, sent_rows, after_more}
use Rattle.output_collector.proofs.Sending.{IsSent, BeginsWith-then}
use Rattle.output_collector.proofs.collector.Collector.emit.Goals as goal

pub loop-row-preserved : goal.loop-row-preserved
loop-row-preserved g c =
    let head : into_iter_items c.loop-row.row-iterator ≡ c.in-Some.row ∷ into_iter_items c.next.new.self = grind (arith, common_steps) in
    let o = c.args.self.now.outlet in
    let more = into_iter_items c.next.new.self in
    record {
      can_go_on = tt;
      will_end = tt;
      goes = goes_row g.I.Ids.tells c.args.root c.args.path.now o c.loop-row.self.outlet c.emit_row.new.self.outlet c.args.rows (into_iter_items c.loop-row.row-iterator) more c.in-Some.row
          (kids o.topology o.from c.args.rows) (tasks_for o.lanes c.args.rows) (sent c.args.self.now [] c.args.into.now) (sent c.loop-row.self c.loop-row.edges c.loop-row.into) (sent c.emit_row.new.self c.emit_row.new.edges c.emit_row.new.into)
          head c.emit_row.ensures.lanes c.loop-row.invariant.outlet c.in_ok-emit_row.ensures.outlet c.loop-row.invariant.goes c.in_ok-emit_row.ensures.sends;
      outlet = after_more o c.loop-row.self.outlet c.emit_row.new.self.outlet c.args.rows (into_iter_items c.loop-row.row-iterator) more c.in-Some.row head c.loop-row.invariant.outlet c.in_ok-emit_row.ensures.outlet;
      same_source = record { topology = c.emit_row.ensures.same_source.topology ∙ c.loop-row.invariant.same_source.topology; from = c.emit_row.ensures.same_source.from ∙ c.loop-row.invariant.same_source.from };
      source = c.emit_row.ensures.source ∙ c.loop-row.invariant.source;
      kept = BeginsWith-then c.args.into.now c.loop-row.into c.emit_row.new.into c.loop-row.invariant.kept c.emit_row.ensures.kept;
    }

whole : (g : _) (c : goal.After-drop-row-iterator-2 g) → IsSent g.I.Ids.tells c.args.root c.args.path.now (kids c.args.self.now.outlet.topology c.args.self.now.outlet.from c.args.rows) (tasks_for c.args.self.now.outlet.lanes c.args.rows)
    c.args.into.now (sent c.args.self.now [] c.args.into.now) (sent c.loop-row.self c.loop-row.edges c.loop-row.into)
whole g c =
    let none : into_iter_items c.loop-row.row-iterator ≡ [] = grind (arith, common_steps) in
    sent_rows g.I.Ids.tells c.args.root c.args.path.now c.args.self.now.outlet c.loop-row.self.outlet c.args.rows (into_iter_items c.loop-row.row-iterator) c.args.self.now.ids c.args.self.now.given c.args.into.now
    (sent c.loop-row.self c.loop-row.edges c.loop-row.into) none c.loop-row.invariant.goes

pub returns-clause-parcels : goal.returns-clause-parcels
returns-clause-parcels g c = (whole g c).parcels

pub returns-clause-edges : goal.returns-clause-edges
returns-clause-edges g c = (whole g c).edges

pub returns-clause-enough : goal.returns-clause-enough
returns-clause-enough g c = (whole g c).enough

pub returns-clause-drawn : goal.returns-clause-drawn
returns-clause-drawn g c = (whole g c).drawn

pub returns-clause-given : goal.returns-clause-given
returns-clause-given g c = (whole g c).given c.draw_from-draw.ensures.fits
