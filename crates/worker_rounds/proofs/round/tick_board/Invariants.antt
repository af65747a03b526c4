use Rattle.std.specs.Prelude.{◌≡◌, ◌+◌, ◌-◌, ◌^◌, length, min}
use Rattle.pulse_board.specs.Seats.{book_of}
use Rattle.worker_rounds.proofs.round.tick_board.Given as goal
use Rattle.worker_stretches.specs.Parts.{IsWholeSeat}

abbrev pub invariant-loop-counted : goal.invariant-loop-counted
invariant-loop-counted l = record {
  seat : IsWholeSeat l.board l.seat;
  drawn : min (length (book_of l.seat).drawn) (2 ^ 64 - 1) ≡ min (length (book_of l.fn.seat).drawn + l.counted) (2 ^ 64 - 1);
}
