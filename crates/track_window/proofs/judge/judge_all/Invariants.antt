use Rattle.std.proofs.Common.{◌≡◌, take}
use Rattle.std.specs.List.{AllZip}
use Rattle.shared_ledger.specs.Seats.{IsSeatOf, book_of}
use Rattle.track_window.specs.Noted.{IsJudged}
use Rattle.track_window.proofs.judge.judge_all.Given as goal

abbrev pub invariant-loop-number : goal.invariant-loop-number
invariant-loop-number l = record {
  seat : IsSeatOf l.ledger l.seat;
  book : book_of l.seat ≡ book_of l.fn.seat;
  judged : AllZip IsJudged (take l.number l.notes) l.acked.items;
}
