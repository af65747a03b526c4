-- The bytes of a key, wherever they lie.
use Rattle.std.specs.Prelude.{ℕ, ◌≤◌, List, take}
use Rattle.storm_stores.specs.declared.key.Place.{Place}
use Rattle.storm_stores.specs.declared.key.Place.TheVariants.{Here, Away}

abbrev pub bytes_in : Place → List ℕ
bytes_in (Here len bytes) = take len bytes
bytes_in (Away bytes) = bytes.items

-- the bytes in place are as many as are said
abbrev pub IsSound : Place → Type 0
IsSound (Here len bytes) = len ≤ 30
IsSound (Away bytes) = Unit {0}
