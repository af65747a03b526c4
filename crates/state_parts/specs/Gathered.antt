-- The pairs of a state that the values of its parts, gathered in one ordered map, stand for.
use Rattle.std.specs.Prelude.{ℕ, ℤ, List, Option, map}
use Rattle.std.specs.BTreeMap.{BTreeMap, get}
use Rattle.std.specs.Cmp.Lexicographic.{slice_cmp}
use Rattle.std.specs.Ordering.{nat_cmp}
use Rattle.tree_model.specs.declared.write.Pair.{Pair}

-- the value of a key, if it has one
abbrev pub value_of : BTreeMap (List ℕ) ℤ → List ℕ → Option ℤ
value_of values key = get (slice_cmp nat_cmp) values key

abbrev pub pair_of : List ℕ × ℤ → Pair
pair_of entry = record { key = entry.0; value = entry.1 }

-- the entries of a map, in order
abbrev pub pairs_of : BTreeMap (List ℕ) ℤ → List Pair
pairs_of values = map pair_of values.entries
