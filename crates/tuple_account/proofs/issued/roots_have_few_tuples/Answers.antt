use Rattle.tuple_account.proofs.Sound.{few}
use Rattle.tuple_account.proofs.issued.roots_have_few_tuples.Goals as goal

pub returns : goal.returns
returns c = λ t custom rows_of valid a account. few t custom rows_of a account valid
