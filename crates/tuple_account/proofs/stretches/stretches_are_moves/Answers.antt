use Rattle.tuple_account.proofs.Stretching.{stretch-moves}
use Rattle.tuple_account.proofs.stretches.stretches_are_moves.Goals as goal

pub returns : goal.returns
returns c = stretch-moves
