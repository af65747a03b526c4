-- Answers to come where none is left. This project's own.
use Rattle.std.proofs.Common.{◌≡◌, suc, ℕ, List, [], ◌∷◌, sym, subst, drop}
use Rattle.storm_avail.specs.Answers.{AreSame}

of_none : (answers : List ℕ) → AreSame answers [] → AreSame (drop 1 answers) []
of_none [] same = same
of_none (answer ∷ answers) same = λ k. same (suc k)

-- what is the same as the answers of a script from a place behind them on is so without its first
pub none_left : (answers script : List ℕ) (place : ℕ) → drop place script ≡ []
    → AreSame answers (drop place script) → AreSame (drop 1 answers) (drop place script)
none_left answers script place none same =
    subst (λ (rest : List ℕ). AreSame (drop 1 answers) rest) (sym none)
    (of_none answers (subst (λ (rest : List ℕ). AreSame answers rest) none same))
