use Rattle.commit_turns.proofs.Lowest.{turn_fills}
use Rattle.commit_turns.proofs.laws.turns_fill_up.Goals as goal

pub returns : goal.returns
returns c = λ t cut d verdict ticks shut. turn_fills t cut shut d verdict ticks
