use Rattle.std.proofs.Common.{◌≡◌, map, ap, ◌∙◌, arith}
use Rattle.std.proofs.lemmas.Grind.{common_steps}
use Rattle.topology_reader.proofs.Common.{ComponentPart, components_of, feeds_of, graph_of, map_push, take_all}
use Rattle.topology_reader.proofs.Numbered.{take_at}
use Rattle.topology_reader.proofs.GraphLemmas.{closed_graph, settled_graph}
use Rattle.topology_reader.proofs.wiring.graph_of.Goals as goal
use Rattle.topology_reader.proofs.wiring.graph_of.Goals.{After-from_vec-2}

pub loop-c-preserved : goal.loop-c-preserved
loop-c-preserved c =
    let e = take_at (components_of c.args.sources.now) c.loop-c.c c.component.result.now c.component.ensures in
    grind (arith, common_steps, map_push)

whole : (c : After-from_vec-2) → c.from_vec-2.result ≡ graph_of c.args.sources.now
whole c =
    c.from_vec-2.ensures
    ∙ c.loop-c.invariant
    ∙ ap (map (λ (part : ComponentPart). feeds_of c.args.sources.now part.tasks part.inputs)) (take_all c.loop-c.c (components_of c.args.sources.now) (omega (arith, c.count-count.ensures.value)))

pub returns-clause-closed : goal.returns-clause-closed
returns-clause-closed c = rw (whole c) (closed_graph c.args.sources.now)

pub returns-clause-settled : goal.returns-clause-settled
returns-clause-settled c = rw (whole c) (settled_graph c.args.sources.now c.requires.range c.requires.acyclic)
