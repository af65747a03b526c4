use Rattle.std.proofs.Common.{rules, ◌∙◌, ap, arith}
use Rattle.topology_graph.specs.Graph.{values_of}
use Rattle.topology_reader.proofs.Common.{greatest, ended_sum, depth_rule, tuples_rule, items_by}
use Rattle.topology_reader.proofs.AssemblyLemmas.{topology-planned}
use Rattle.topology_reader.proofs.GraphLemmas.{small_graph}
use Rattle.topology_reader.proofs.PlanGraph.{depth_planned, depth_small, weight_planned}
use Rattle.topology_reader.proofs.SubLemmas.{taken}
use Rattle.topology_reader.proofs.read.make.Goals as goal

pub overflow_cast-depth : goal.overflow_cast-depth
overflow_cast-depth c =
    let p = c.args.wiring.now in
    let deepest = c.greatest-depth.ensures ∙ ap greatest (c.deref.ensures.value ∙ c.in_ok-numbers_by.ensures ∙ ap (values_of depth_rule) c.graph-graph.ensures.value) in
    omega (arith, deepest, depth_small p, small_graph p c.graph-graph.ensures.range)

pub returns : goal.returns
returns c =
    let p = c.args.wiring.now in
    let subs = taken c.in_ok-component_subs.component_subs.items c.remove-spout_subs.result _ _ c.in_ok-component_subs.ensures c.remove-spout_subs.ensures.value in
    let component_subs = ap items_by c.remove-spout_subs.ensures.by_index.2 ∙ subs.1 in
    record {
      topology =
          topology-planned p _ _ _ _ _ _ _ _ _ _ _ (search rules) (search rules) (search rules) (search rules) c.in_ok-components.ensures.0 subs.0
          component_subs (search rules) (search rules) (search rules) (search rules);
      tasks = c.in_ok-components.ensures.1;
      depth = c.greatest-depth.ensures ∙ ap greatest (c.deref.ensures.value ∙ c.in_ok-numbers_by.ensures ∙ ap (values_of depth_rule) c.graph-graph.ensures.value) ∙ depth_planned p (small_graph p c.graph-graph.ensures.range);
      weight = c.total-weight.ensures ∙ ap ended_sum (c.deref-2.ensures.value ∙ c.in_ok-numbers_by-2.ensures ∙ ap (values_of tuples_rule) c.graph-graph.ensures.value) ∙ weight_planned p;
    }
