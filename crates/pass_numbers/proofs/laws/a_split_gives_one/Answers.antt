use Rattle.std.proofs.Common.{[], refl}
use Rattle.pass_numbers.specs.Numbers.{kept_numbers, cut_numbers}
use Rattle.pass_numbers.proofs.Numbering.{split_beside}
use Rattle.pass_numbers.proofs.laws.a_split_gives_one.Goals as goal

pub returns : goal.returns
returns c = λ ns others some_number numbered.
    split_beside (λ ms. ms) [] refl ns (kept_numbers ns) (cut_numbers ns) others some_number refl refl numbered
