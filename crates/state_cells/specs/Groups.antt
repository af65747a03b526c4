-- The writes of a batch by key.
use Rattle.std.specs.Prelude.{ℕ, ℤ, List, [], ◌++◌, map, Option}
use Rattle.std.specs.Option.{option_map_or}
use Rattle.std.specs.Str.{bytes_eq}
use Rattle.indexmap.specs.IndexMap.{IndexMap, get_by}
use Rattle.smallvec.specs.SmallVec.{SmallVec}
use Rattle.storm_stores.specs.declared.key.KeyBytes.{KeyBytes}
use Rattle.state_cells.specs.Turns.{Job}
use Rattle.state_cells.specs.declared.group.GroupedWrites.{GroupedWrites}

-- a key of the writes beside its amounts
abbrev pub Group : Type 0
Group = KeyBytes × SmallVec ℤ

abbrev pub job_of : Group → Job
job_of group = record { key = group.0.bytes.now; amounts = group.1.items }

-- nothing is written for these keys
abbrev pub restores_in : List (List ℕ) → List Job
restores_in keys = map (λ key. record { key = key; amounts = [] }) keys

module _ {S : Type 0} where
  -- what is written for a key, if anything is
  abbrev pub group_of : IndexMap KeyBytes (SmallVec ℤ) S → List ℕ → Option (SmallVec ℤ)
  group_of groups key = get_by (λ (k : KeyBytes). bytes_eq key k.bytes.now) groups

  -- the amounts of a key
  abbrev pub amounts_in : IndexMap KeyBytes (SmallVec ℤ) S → List ℕ → List ℤ
  amounts_in groups key =
      option_map_or (λ (amounts : SmallVec ℤ). amounts.items) (group_of groups key) []

  -- a job for each key that is written
  abbrev pub jobs_in : IndexMap KeyBytes (SmallVec ℤ) S → List Job
  jobs_in groups = map job_of groups.entries

  -- the jobs of the keys that are written, and of these other keys
  abbrev pub jobs_of : IndexMap KeyBytes (SmallVec ℤ) S → List (List ℕ) → List Job
  jobs_of groups keys = jobs_in groups ++ restores_in keys

-- the amounts of a key in writes that were brought together
abbrev pub amounts_of : GroupedWrites → List ℕ → List ℤ
amounts_of writes key = amounts_in writes.groups key
