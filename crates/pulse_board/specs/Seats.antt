-- Which seat is of which board, and its book.
use Rattle.std.specs.Prelude.{◌≡◌}
use Rattle.pulse_board.specs.declared.rule.Book.{Book}
use Rattle.pulse_board.specs.declared.seat.Board.{Board}
use Rattle.pulse_board.specs.declared.seat.BoardSeat.{BoardSeat}

-- the seat is of the board
abbrev pub IsSeatOf : Board → BoardSeat → Type 0
IsSeatOf board seat = seat.inner.table_id ≡ board.table.shared.table_id

-- what the seat saw, drew and did
abbrev pub book_of : BoardSeat → Book
book_of seat = seat.inner.me.0
