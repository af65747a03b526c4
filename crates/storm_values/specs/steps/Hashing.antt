-- What one step of a key's hash does.
use Rattle.std.specs.Prelude.{ℕ, ◌∷◌, ◌==◌, List, fold, if◌then◌else◌}
use Rattle.storm_values.specs.declared.value.Value.{Value}
use Rattle.storm_values.specs.Keys.{value_bytes, fnv_step}

-- the bytes of the value at a place of a key, after the byte that parts it from the value before
abbrev pub bytes_at : ℕ → Value → List ℕ
bytes_at place value = if place == 0 then value_bytes value else 0x1F ∷ value_bytes value

-- the hash with these bytes
abbrev pub hash_more : ℕ → ℕ → Value → ℕ
hash_more hash place value = fold fnv_step hash (bytes_at place value)
