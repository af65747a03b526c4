-- The counts that maps stand for. This project's own.
use Rattle.std.specs.Prelude.{ℕ, List, map}
use Rattle.indexmap.specs.IndexMap.{IndexMap}
use Rattle.state_tallies.specs.declared.tallies.KeyCount.{KeyCount}

-- the entries of a map, in the order in which their keys came
abbrev pub counts_of : {S : Type 0} → IndexMap (List ℕ) ℕ S → List KeyCount
counts_of map_of = map (λ entry. record { key = entry.0; count = entry.1 }) map_of.entries

abbrev pub counts_by : {S : Type 0} → List (IndexMap (List ℕ) ℕ S) → List (List KeyCount)
counts_by maps = map counts_of maps
