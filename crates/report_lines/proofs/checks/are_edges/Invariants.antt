use Rattle.std.proofs.Common.{◌↔◌, drop, map}
use Rattle.std.specs.List.{AllByRecursion}
use Rattle.report_grammar.specs.WellFormed.{IsEdge}
use Rattle.report_lines.specs.Told.{edge_told}
use Rattle.report_lines.proofs.checks.are_edges.Given as goal

abbrev pub invariant-loop-edge : goal.invariant-loop-edge
invariant-loop-edge l =
    AllByRecursion IsEdge (map edge_told (drop l.edge-index l.edges)) ↔ AllByRecursion IsEdge (map edge_told l.edges)
