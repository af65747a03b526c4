use Rattle.std.proofs.Common.{arith}
use Rattle.pulse_board.proofs.Steps.{halting}
use Rattle.pulse_board.proofs.seat.Board.halt.Goals as goal

pub store-requires : goal.store-requires
store-requires c = (c.requires, (let e = c.args.self.now.two_words in omega arith), halting _ _ _ c.args.seat.now.some_number)
