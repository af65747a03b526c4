use Rattle.commit_turns.proofs.Keeping.{going}
use Rattle.commit_turns.proofs.Lowest.{lowest_after}
use Rattle.commit_turns.proofs.laws.lowest_is_pending.Goals as goal

pub returns : goal.returns
returns c = λ t cut d fates valid start none kept verdict ticks. lowest_after t cut valid start d fates none (going t cut d fates kept) verdict ticks
