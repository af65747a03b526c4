use Rattle.pulse_board.proofs.Whole.{unmarked_steady}
use Rattle.pulse_board.proofs.laws.unmarked_books_count_all.Goals as goal

pub returns : goal.returns
returns c = λ words books kept clear. let steady = unmarked_steady books kept.count kept.counts clear in (kept.count, steady.drawn, steady.low)
