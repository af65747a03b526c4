-- The pairs that running tables' maps stand for.
use Rattle.std.specs.Prelude.{ℕ, ℤ, Bool, true, false, List, map}
use Rattle.indexmap.specs.IndexMap.{IndexMap}
use Rattle.storm_values.specs.Keys.{quoted}
use Rattle.tree_model.specs.declared.running.Values.{Values}
use Rattle.tree_model.specs.declared.write.Pair.{Pair}

-- the entries of a map, in the order in which their texts came
abbrev pub entries_of : {S : Type 0} → IndexMap (List ℕ) ℤ S → List Pair
entries_of map_of = map (λ entry. record { key = entry.0; value = entry.1 }) map_of.entries

-- an entry of a plain key by the key's JSON text
abbrev pub quoted_entry : List ℕ × ℤ → List ℕ × ℤ
quoted_entry entry = (quoted entry.0, entry.1)

-- the pairs of plain keys by the keys' JSON texts
abbrev pub whole_pairs : Bool → List Pair → List Pair
whole_pairs true pairs =
    map (λ (pair : Pair). record { key = quoted pair.key; value = pair.value }) pairs
whole_pairs false pairs = pairs

-- the pairs of a state
abbrev pub pairs_of : Values → List Pair
pairs_of values = whole_pairs values.plain (entries_of values.entries)

abbrev pub pairs_by : List Values → List (List Pair)
pairs_by maps = map pairs_of maps
