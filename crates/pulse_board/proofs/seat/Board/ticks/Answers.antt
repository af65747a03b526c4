use Rattle.std.proofs.Common.{arith}
use Rattle.pulse_board.proofs.Steps.{looks}
use Rattle.pulse_board.proofs.seat.Board.ticks.Goals as goal

pub load-requires : goal.load-requires
load-requires c = (c.requires, (let e = c.args.self.now.two_words in omega arith), looks _ _ _ c.args.seat.now.some_number)
