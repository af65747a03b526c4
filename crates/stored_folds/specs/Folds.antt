-- What is kept of a stored fold, and what an operation with it means.
use Rattle.std.specs.Prelude.{◌≡◌, ℤ}
use Rattle.std.specs.Int.{w64, w128}
use Rattle.std.specs.Int.RustNames.{FitsSigned}
use Rattle.bolt_ops.specs.RowOp.{Custom, IsCustom}

-- values combine in pieces as they do one after another
abbrev pub IsAssociative : (ℤ → ℤ → ℤ) → Type 0
IsAssociative combine = (a b c : ℤ) → combine (combine a b) c ≡ combine a (combine b c)

-- On each amount of 64 bits what makes a value of one may be called, and makes the law's value; so
-- does what makes a value of two, on each two values of 128 bits.
pub record Keeps (one : ℤ → ℤ) (combine : ℤ → ℤ → ℤ) (may_make : ℤ → Type 0)
    (makes : ℤ → ℤ → Type 0) (may_combine : ℤ → ℤ → Type 0)
    (combines : ℤ → ℤ → ℤ → Type 0) : Type 0 where
  pub one_may_be_called : (amount : ℤ) → FitsSigned w64 amount → may_make amount
  pub one_answers : (amount made : ℤ)
      → FitsSigned w64 amount → makes amount made → made ≡ one amount
  pub combine_may_be_called : (earlier later : ℤ)
      → FitsSigned w128 earlier → FitsSigned w128 later → may_combine earlier later
  pub combine_answers : (earlier later made : ℤ)
      → FitsSigned w128 earlier → FitsSigned w128 later → combines earlier later made
      → made ≡ combine earlier later

-- an operation that makes the rows of another, and folds by a law
abbrev pub with_fold : (ℤ → ℤ) → (ℤ → ℤ → ℤ) → Custom → Custom
with_fold one combine inner = record { rows = inner.rows; one = one; combine = combine }

pub IsCustom-with_fold : (one : ℤ → ℤ) (combine : ℤ → ℤ → ℤ) → IsAssociative combine
    → (inner : Custom) → IsCustom inner → IsCustom (with_fold one combine inner)
IsCustom-with_fold one combine associative inner is =
    record {
      few = is.few;
      widths = is.widths;
      short = is.short;
      associative = associative;
    }
