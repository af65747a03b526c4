use Rattle.std.proofs.Common.{◌≡◌, ◌≤◌, ◌∷◌, length, arith, rules}
use Rattle.report_lines.proofs.Joined.{edges_done, edges_more}
use Rattle.report_lines.proofs.texts.push_edges.Goals as goal

pub loop-edge-preserved : goal.loop-edge-preserved
loop-edge-preserved c =
    edges_more c.in-Some.others.now c.loop-edge.edge-index c.edge-item.result _ _ _ _ (search rules) c.edge-item.is c.loop-edge.invariant c.in_ok-push_str.ensures.bytes c.in_ok-push_edge-2.ensures

pub returns : goal.returns
returns c =
    let parts : c.args.edges.now ≡ c.in-Some.first.now ∷ c.in-Some.others.now = search rules in
    let all : length c.in-Some.others.now ≤ c.loop-edge.edge-index = omega arith in
    edges_done _ _ c.in-Some.others.now c.loop-edge.edge-index _ _ _ parts all c.in_ok-push_edge.ensures c.loop-edge.invariant
