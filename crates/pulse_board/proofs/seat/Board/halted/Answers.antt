use Rattle.std.proofs.Common.{arith}
use Rattle.pulse_board.proofs.Steps.{sees_halt}
use Rattle.pulse_board.proofs.seat.Board.halted.Goals as goal

pub load-requires : goal.load-requires
load-requires c = (c.requires, (let e = c.args.self.now.two_words in omega arith), sees_halt _ _ _ c.args.seat.now.some_number)
