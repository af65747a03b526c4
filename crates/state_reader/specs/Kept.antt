-- What totals say of the writes that made them.
use Rattle.std.specs.Prelude.{◌≡◌, ℕ, List, Option, option_map}
use Rattle.std.specs.Map.{lookup}
use Rattle.std.specs.Str.{bytes_eq}
use Rattle.tree_model.specs.topology_plan.declared.parts.Fold.{Fold}
use Rattle.tree_model.specs.declared.write.Write.{Write}
use Rattle.tree_model.specs.Tables.{base}
use Rattle.state_reader.specs.declared.totals.Total.{Total}
use Rattle.state_reader.specs.declared.totals.Totals.{Totals}
use Rattle.state_reader.specs.Totals.{entries_at, folding, total_by}

-- the total of a key of a state
abbrev pub total_at : Totals → ℕ → List ℕ → Option Total
total_at totals state key = lookup (bytes_eq key) (entries_at totals.states.items state)

-- each key of each state has the fold of what is written for it, by whatever fold
abbrev pub AreTotals : List Write → Totals → Type 0
AreTotals writes totals =
    (by : Fold) (state : ℕ) (key : List ℕ)
    → option_map (total_by by) (total_at totals state key) ≡ base (folding by) writes state key

-- each state has the same entries in both
abbrev pub AreAlike : Totals → Totals → Type 0
AreAlike old new =
    (state : ℕ) → entries_at new.states.items state ≡ entries_at old.states.items state
