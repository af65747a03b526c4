use Rattle.pass_numbers.proofs.Numbering.{one_numbered, one_whole}
use Rattle.pass_numbers.proofs.laws.the_last_is_whole.Goals as goal

pub returns : goal.returns
returns c = λ ns. (one_whole (λ ms. ms) ns, one_numbered (λ ms. ms) ns)
