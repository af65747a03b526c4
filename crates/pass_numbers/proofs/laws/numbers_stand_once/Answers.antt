use Rattle.pass_numbers.proofs.Numbering.{has-le}
use Rattle.pass_numbers.proofs.laws.numbers_stand_once.Goals as goal

pub returns : goal.returns
returns c = λ holders digits numbered. has-le (λ ns. ns) holders numbered digits
