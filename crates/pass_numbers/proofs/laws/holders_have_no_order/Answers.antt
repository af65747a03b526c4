use Rattle.pass_numbers.proofs.Numbering.{any_order}
use Rattle.pass_numbers.proofs.laws.holders_have_no_order.Goals as goal

pub returns : goal.returns
returns c = λ holders others same numbered. any_order (λ ns. ns) holders others same numbered
