-- The words of scripts. This project's own.
use Rattle.std.specs.Prelude.{◌≡◌, ℕ, ◌+◌, ◌-◌, ◌*◌, ◌%◌, ◌^◌, ◌≤◌, ◌==◌, nat_lt, min, if◌then◌else◌, Option, None, Some, List, [], ◌∷◌, length, slice_index, unwrap_or}

-- the k-th word of a source: its list's, and after the list numbers that go on by one, wrapping
abbrev pub script_word : ℕ → List ℕ → ℕ → ℕ
script_word source list k =
    if nat_lt k (length list) then slice_index list k
    else (2 ^ 32 * (source + 1) + (k - length list)) % 2 ^ 64

-- the list that a source was given, if it was given one
abbrev pub list_of : ℕ → List (ℕ × List ℕ) → Option (List ℕ)
list_of source [] = None
list_of source (l ∷ ls) = if l.0 == source then Some l.1 else list_of source ls

-- the words of each source; one that was given no list has the empty list
abbrev pub script_words : List (ℕ × List ℕ) → ℕ → ℕ → ℕ
script_words lists source k = script_word source (unwrap_or (list_of source lists) []) k

-- a source stands before its word of number `given`
pub record StandsAt (list : List ℕ) (place past given : ℕ) : Type 0 where
  pub within : place ≤ length list
  pub listed : place ≡ min given (length list)
  pub beyond : past ≡ (given - length list) % 2 ^ 64
