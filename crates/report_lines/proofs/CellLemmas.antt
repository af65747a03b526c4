-- A cell by its parts.
use Rattle.std.proofs.Common.{◌≡◌, ℕ, ℤ, List, Some, refl}
use Rattle.report_grammar.specs.Report.{CellText}

pub cell_made : (cell : CellText) (state key : List ℕ) (value : ℤ) → state ≡ cell.state → key ≡ cell.key → value ≡ cell.value
    → Some (record { state = state; key = key; value = value }) ≡ Some cell
cell_made cell state key value is_state is_key is_value = rw (is_state, is_key, is_value) refl
