use Rattle.std.proofs.Common.{◌≡◌, [], ◌∷◌, refl, arith}
use Rattle.std.proofs.lemmas.List.Elements.{All-from_recursion}
use Rattle.pass_numbers.proofs.Numbering.{no_others, no_holder}
use Rattle.pass_numbers.proofs.laws.whole_leaves_none.Goals as goal

pub returns : goal.returns
returns c = λ whole others numbered is_whole.
    All-from_recursion (λ ns. ns ≡ []) others (no_holder (λ ns. ns) others (λ q. let e = no_others (λ ns. ns) [] refl (whole ∷ others) 0 whole is_whole numbered refl q in omega arith))
