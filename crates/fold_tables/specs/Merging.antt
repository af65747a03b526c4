-- What the values of a key come to that were folded from earlier and from later amounts by
-- themselves. This project's own.
use Rattle.std.specs.Prelude.{◌≡◌, ◌<◌, ◌^◌, ℕ, ℤ, ◌+ℤ◌, List, cond, length, fold, All, Option, Some, None}
use Rattle.std.specs.Int.{int_max, saturate_signed, w64, w128}
use Rattle.std.specs.Int.RustNames.{FitsSigned}
use Rattle.std.specs.Str.{bytes_eq}
use Rattle.tree_model.specs.bolt_ops.RowOp.{Custom}
use Rattle.tree_model.specs.topology_plan.declared.parts.Fold.{Fold}
use Rattle.tree_model.specs.topology_plan.declared.parts.Fold.TheVariants.{Count, Sum, Last, Max}
use Rattle.tree_model.specs.topology_plan.declared.parts.Fold.TheVariants as fold_of
use Rattle.tree_model.specs.declared.write.Pair.{Pair}
use Rattle.tree_model.specs.declared.write.Write.{Write}
use Rattle.tree_model.specs.Tables.{Folding, AreInOrder, value_at}

-- the value of some amounts, where there are any
abbrev pub value_of : Folding → List ℤ → Option ℤ
value_of by amounts = fold (λ old amount. Some (by old amount)) None amounts

-- The value of two, of which the first comes from earlier amounts: counts and sums add, up to the
-- ends of 128 bits, the last is the later one, the maximum the greater, and a custom fold combines
-- the earlier with the later.
abbrev pub joined : Custom → Fold → ℤ → ℤ → ℤ
joined custom Count earlier later = saturate_signed w128 (earlier +ℤ later)
joined custom Sum earlier later = saturate_signed w128 (earlier +ℤ later)
joined custom Last earlier later = later
joined custom Max earlier later = int_max earlier later
joined custom fold_of.Custom earlier later = custom.combine earlier later

-- the same where there may be no earlier or no later amounts
abbrev pub merged : (ℤ → ℤ → ℤ) → Option ℤ → Option ℤ → Option ℤ
merged join None later = later
merged join (Some earlier) None = Some earlier
merged join (Some earlier) (Some later) = Some (join earlier later)

-- a value that is joined onto one that may be there
abbrev pub joined_onto : (ℤ → ℤ → ℤ) → Option ℤ → ℤ → ℤ
joined_onto join None later = later
joined_onto join (Some earlier) later = join earlier later

-- one key's value is another, from the one before, and all other keys have their values
pub record IsPut (value : Option ℤ → ℤ) (old : List Pair) (key : List ℕ)
    (new : List Pair) : Type 0 where
  pub values : (at : List ℕ) → value_at new at
      ≡ cond (bytes_eq key at) (Some (value (value_at old key))) (value_at old at)

-- each key has the value of its earlier and its later one
pub record AreMergedIn (join : ℤ → ℤ → ℤ) (earlier later pairs : List Pair) : Type 0 where
  pub values : (key : List ℕ)
      → value_at pairs key ≡ merged join (value_at earlier key) (value_at later key)

-- the pairs of a state in order, each key's with the value of its values in two others
pub record AreMerged (join : ℤ → ℤ → ℤ) (earlier later pairs : List Pair) : Type 0 where
  pub ordered : AreInOrder pairs
  pub values : (key : List ℕ)
      → value_at pairs key ≡ merged join (value_at earlier key) (value_at later key)

-- So few amounts of 64 bits that no sum of theirs comes to an end of 128 bits.
pub record AreFew (amounts : List ℤ) : Type 0 where
  pub fewer : length amounts < 2 ^ 63
  pub fit : All (FitsSigned w64) amounts

-- so few writes, of such amounts
pub record AreFewWrites (writes : List Write) : Type 0 where
  pub fewer : length writes < 2 ^ 63
  pub fit : All (λ (write : Write). FitsSigned w64 write.amount) writes
