use Rattle.std.proofs.Common.{subst, sym, refl}
use Rattle.left_right.specs.Sides.{view}
use Rattle.state_reader.specs.Views.{Begins}
use Rattle.state_reader.specs.Pairs.{told_in}
use Rattle.state_reader.proofs.reader.read_either.Goals as goal

pub returns-in-None-clause-told : goal.returns-in-None-clause-told
returns-in-None-clause-told g c = subst (λ n. Begins (told_in n) (view c.read.result.1.place).seen) (sym c.in-None.is) ((view c.read.result.1.place).seen, refl)
