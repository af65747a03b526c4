use Rattle.std.proofs.Common.{◌++◌, refl}
use Rattle.pass_numbers.proofs.Numbering.{join_beside}
use Rattle.pass_numbers.proofs.laws.a_join_loses_none.Goals as goal

pub returns : goal.returns
returns c = λ ns ms others numbered. join_beside (λ ms. ms) ns ms (ns ++ ms) others refl numbered
