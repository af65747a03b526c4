use Rattle.tuple_account.proofs.Ending.{causes, ends_drawn}
use Rattle.tuple_account.proofs.ends.ends_have_causes.Goals as goal

pub returns-clause-causes : goal.returns-clause-causes
returns-clause-causes c = causes

pub returns-clause-drawn : goal.returns-clause-drawn
returns-clause-drawn c = ends_drawn
