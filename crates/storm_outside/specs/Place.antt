-- How far the current file was read.
use Rattle.std.specs.Prelude.{ℕ, ◌<◌, ◌≤◌, List, [], length, drop, Option, option_map, slice_index_or}
use Rattle.storm_outside.specs.declared.memory_shelf.Place.{Place}

-- the bytes of the file of this number
abbrev pub bytes_at : List (List ℕ × List ℕ) → ℕ → List ℕ
bytes_at files file = (slice_index_or files file ([], [])).1

-- what is left of the current file
abbrev pub rest_at : List (List ℕ × List ℕ) → Option Place → Option (List ℕ)
rest_at files current =
    option_map (λ (place : Place). drop place.at (bytes_at files place.file)) current

-- the place is in one of the files
pub record IsIn (files : List (List ℕ × List ℕ)) (place : Place) : Type 0 where
  pub file : place.file < length files
  pub at : place.at ≤ length (bytes_at files place.file)
