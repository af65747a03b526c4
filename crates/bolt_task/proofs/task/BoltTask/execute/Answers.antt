use Rattle.std.proofs.Common.{◌≡◌, ◌<◌, [], length, sym, ap, subst, ◌∙◌, arith}
use Rattle.std.proofs.lemmas.Result.{IfOk-weaker}
use Rattle.tuple_account.specs.bolt_ops.declared.operation.Outcome.TheVariants as outcome
use Rattle.tuple_account.specs.topology_plan.declared.parts.Origin.TheVariants as origin
use Rattle.tuple_account.specs.tree_model.Trees.{exec_at}
use Rattle.tuple_account.specs.Issued.{node_of}
use Rattle.output_collector.proofs.Sending.{Draws-none}
use Rattle.output_collector.specs.Draws.{given_after}
use Rattle.output_collector.specs.Outlets.{after_rows}
use Rattle.bolt_task.specs.Executing.{answered}
use Rattle.bolt_task.proofs.Executing.{rows_done, fail_done}
use Rattle.bolt_task.proofs.task.BoltTask.execute.Goals as goal

pub returns-in-Rows-clause-executed : goal.returns-in-Rows-clause-executed
returns-in-Rows-clause-executed g c =
    let b = c.args.self.now in
    let o = b.collector.outlet in
    let custom = g.O.RowOp.meaning c.args.custom.now in
    let from : o.from ≡ origin.Component c.args.tuple.component = b.placed.from ∙ ap origin.Component (sym c.requires.to) in
    let within : c.args.tuple.component < length b.plan.now.components = subst (λ n. n < length b.plan.now.components) (sym c.requires.to) b.placed.within in
    let is : exec_at b.plan.now custom c.args.tuple.root.attempt (node_of c.args.tuple) ≡ outcome.Rows c.in-Rows.rows = sym c.in_ok-rows.ensures ∙ c.in-Rows.is in
    IfOk-weaker c.go_on.result _ _
    (λ parcels done.
    let all = rows_done o b.plan.now custom c.args.tuple b.task b.collector.given b.placed.topology from within c.in-Rows.rows done.ids is c.facts.ensures.valid c.facts.ensures.wired c.facts.ensures.lanes c.facts.ensures.sound done.enough in
    record {
      ids = done.ids;
      sent = done.sent ∙ all.sent;
      well = all.well;
      drawn = done.drawn;
      given = done.given;
      outlet = done.outlet ∙ ap (λ x. after_rows (answered x) o) (sym is);
    }) c.go_on.ensures.goes_on

pub returns-in-Fail-clause-executed : goal.returns-in-Fail-clause-executed
returns-in-Fail-clause-executed g c =
    let b = c.args.self.now in
    let o = b.collector.outlet in
    let custom = g.O.RowOp.meaning c.args.custom.now in
    let from : o.from ≡ origin.Component c.args.tuple.component = b.placed.from ∙ ap origin.Component (sym c.requires.to) in
    let within : c.args.tuple.component < length b.plan.now.components = subst (λ n. n < length b.plan.now.components) (sym c.requires.to) b.placed.within in
    let is : exec_at b.plan.now custom c.args.tuple.root.attempt (node_of c.args.tuple) ≡ outcome.Fail = sym c.in_ok-rows.ensures ∙ c.in-Fail.is in
    let all = fail_done o b.plan.now custom c.args.tuple b.task b.collector.given b.placed.topology from within is in
    IfOk-weaker c.fail.result _ _
    (λ parcels told. record {
      ids = [];
      sent = told ∙ all.sent;
      well = all.well;
      drawn = Draws-none g.I.Ids.tells b.collector.ids;
      given = (let e : b.collector.given ≡ given_after b.collector.given 0 = omega (arith, c.facts.ensures.fits) in e);
      outlet = ap (λ x. after_rows (answered x) o) (sym is);
    }) c.fail.ensures
