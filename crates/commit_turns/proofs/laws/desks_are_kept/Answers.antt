use Rattle.commit_turns.proofs.Keeping.{going, going_first, kept_of}
use Rattle.commit_turns.proofs.Turning.{going_decided, going_turned}
use Rattle.std.specs.Prelude.{[], ◌++◌}
use Rattle.commit_turns.specs.Desks.{first_desk}
use Rattle.commit_turns.specs.Turns.{decided, turned}
use Rattle.commit_turns.proofs.laws.desks_are_kept.Goals as goal

pub returns-clause-first : goal.returns-clause-first
returns-clause-first c t cut valid start = kept_of t cut (first_desk cut) [] (going_first t cut valid start)

pub returns-clause-turn : goal.returns-clause-turn
returns-clause-turn c t cut d fates valid start none kept verdict ticks shut =
    kept_of t cut (turned t cut verdict ticks shut d).desk (fates ++ (turned t cut verdict ticks shut d).ended)
    (going_turned t cut valid start d fates none (going t cut d fates kept) verdict ticks shut)

pub returns-clause-outcome : goal.returns-clause-outcome
returns-clause-outcome c t cut d fates valid start none kept how =
    kept_of t cut (decided t cut how d).desk (fates ++ (decided t cut how d).ended) (going_decided t cut d fates (going t cut d fates kept) none how)
