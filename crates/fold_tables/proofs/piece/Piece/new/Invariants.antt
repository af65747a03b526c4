use Rattle.std.proofs.Common.{◌≡◌, replicate, []}
use Rattle.fold_tables.specs.Pieces.{pairs_by}
use Rattle.fold_tables.proofs.piece.Piece.new.Given as goal

abbrev pub invariant-loop : goal.invariant-loop
invariant-loop l = pairs_by l.states.items ≡ replicate l.counter []
