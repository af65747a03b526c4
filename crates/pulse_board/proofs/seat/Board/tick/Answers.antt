use Rattle.std.proofs.Common.{arith}
use Rattle.pulse_board.proofs.Steps.{ticks}
use Rattle.pulse_board.proofs.seat.Board.tick.Goals as goal

pub fetch_add-found-requires : goal.fetch_add-found-requires
fetch_add-found-requires c = (c.requires, (let e = c.args.self.now.two_words in omega arith), ticks _ _ _ c.args.seat.now.some_number)
