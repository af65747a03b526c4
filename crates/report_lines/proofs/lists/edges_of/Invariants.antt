use Rattle.std.proofs.Common.{◌≡◌, ◌+◌, ℕ, List, Option, None, Some, length, map, option_map}
use Rattle.report_grammar.specs.steps.Lists.{each, edge_of, pieces, pieces_left}
use Rattle.report_lines.specs.Told.{edge_told}
use Rattle.report_lines.proofs.Pieces.{after}
use Rattle.report_lines.proofs.lists.edges_of.Given as goal

abbrev pub invariant-loop-rest : goal.invariant-loop-rest
invariant-loop-rest l =
    after (map edge_told l.edges) (each edge_of (pieces_left 32 (option_map (λ s. s.now) l.rest))) ≡ each edge_of (pieces 32 l.fn.text)

abbrev size : Option (List ℕ) → ℕ
size None = 0
size (Some text) = length text + 1

abbrev pub decreases-loop-rest : goal.decreases-loop-rest
decreases-loop-rest l = size (option_map (λ s. s.now) l.rest)
