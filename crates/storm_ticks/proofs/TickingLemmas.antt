-- What answers one after another come to.
use Rattle.std.proofs.Common.{◌≡◌, ℕ, ◌+◌, ◌-◌, ◌^◌, List, fold, min, sum, refl, arith}
use Rattle.std.proofs.lemmas.List.Folds.{fold_along}
use Rattle.storm_ticks.specs.Ticking.{handed_on}

-- answers that are handed on one after another come to their sum, up to the end of the count
pub fold-handed_on : (answers : List ℕ) → fold handed_on 0 answers ≡ min (sum answers) (2 ^ 64 - 1)
fold-handed_on answers =
    fold_along handed_on (λ total answer. total + answer)
    (λ handed total. handed ≡ min total (2 ^ 64 - 1))
    (λ handed total answer so_far. omega arith) 0 0 answers refl
