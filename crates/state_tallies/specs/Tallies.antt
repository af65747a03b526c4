-- Counts by state and key. This project's own.
use Rattle.std.specs.Prelude.{◌≡◌, ◌≤◌, ℕ, ◌+◌, ◌-◌, ◌^◌, ◌==◌, min, if◌then◌else◌, List, [], ◌∷◌, map, cond, slice_index_or}
use Rattle.std.specs.List.Sorted.{IsStrictlySortedBy}
use Rattle.std.specs.Cmp.Lexicographic.{slice_cmp}
use Rattle.std.specs.Ordering.{nat_cmp}
use Rattle.std.specs.Str.{bytes_eq}
use Rattle.state_tallies.specs.declared.tallies.KeyCount.{KeyCount}

-- the count beside a key, 0 where it has none
abbrev pub count_in : List KeyCount → List ℕ → ℕ
count_in [] key = 0
count_in (c ∷ counts) key = cond (bytes_eq key c.key) c.count (count_in counts key)

-- the count of a state's key
abbrev pub count_of : List (List KeyCount) → ℕ → List ℕ → ℕ
count_of tallies state key = count_in (slice_index_or tallies state []) key

-- n where the key is this, and else 0
abbrev pub at_text : List ℕ → ℕ → List ℕ → ℕ
at_text key n k = if bytes_eq k key then n else 0

-- n where the state and the key are these, and else 0
abbrev pub at_key : ℕ → List ℕ → ℕ → ℕ → List ℕ → ℕ
at_key state key n s k = if state == s then at_text key n k else 0

-- counts end at 2^64 - 1
abbrev pub capped : ℕ → ℕ
capped n = min n (2 ^ 64 - 1)

-- no count is above that
abbrev pub AreFewIn : List KeyCount → Type 0
AreFewIn counts = (key : List ℕ) → count_in counts key ≤ 2 ^ 64 - 1

abbrev pub AreFew : List (List KeyCount) → Type 0
AreFew tallies = (state : ℕ) (key : List ℕ) → count_of tallies state key ≤ 2 ^ 64 - 1

-- each key has so many more
abbrev pub HasMore : List KeyCount → (List ℕ → ℕ) → List KeyCount → Type 0
HasMore old more new = (key : List ℕ) → count_in new key ≡ capped (count_in old key + more key)

-- the keys stand in the order of their bytes, each once
abbrev pub AreInOrder : List KeyCount → Type 0
AreInOrder counts = IsStrictlySortedBy (slice_cmp nat_cmp) (map (λ (c : KeyCount). c.key) counts)
