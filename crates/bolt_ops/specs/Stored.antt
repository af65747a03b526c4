-- What is kept of a stored operation.
use Rattle.std.specs.Prelude.{◌≡◌, List, All}
use Rattle.storm_values.specs.declared.value.Value.{Value}
use Rattle.storm_values.specs.Rows.{IsShort}

-- On each row within limits what makes rows may be called, and makes the rows of a law.
pub record Keeps (law : List Value → List (List Value)) (may_make : List Value → Type 0)
    (makes : List Value → List (List Value) → Type 0) : Type 0 where
  pub may_be_called : (row : List Value) → All IsShort row → may_make row
  pub answers : (row : List Value) (rows : List (List Value))
      → All IsShort row → makes row rows → rows ≡ law row
