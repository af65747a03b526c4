use Rattle.std.proofs.Common.{◌≡◌, ◌+◌, ◌∷◌, ℕ, List, Option, None, Some, length, option_map}
use Rattle.report_grammar.specs.steps.Lists.{last_of, pieces, pieces_left}
use Rattle.report_lines.proofs.lists.last_piece.Given as goal

abbrev pub invariant-loop-rest : goal.invariant-loop-rest
invariant-loop-rest l =
    last_of (l.piece ∷ pieces_left l.byte (option_map (λ s. s.now) l.rest)) ≡ last_of (pieces l.byte l.text)

abbrev size : Option (List ℕ) → ℕ
size None = 0
size (Some text) = length text + 1

abbrev pub decreases-loop-rest : goal.decreases-loop-rest
decreases-loop-rest l = size (option_map (λ s. s.now) l.rest)
