-- Counts of faults.
use Rattle.std.specs.Prelude.{ℕ, ◌≡◌, ◌<◌, ◌+◌, ◌-◌, ◌^◌, ◌⊎◌, min}

-- a count that ends at 2^64 - 1 rose: it is greater now, or it stands at its end
abbrev pub Rose : ℕ → ℕ → Type 0
Rose before after = (before < after) ⊎ (after ≡ 2 ^ 64 - 1)

-- one more in such a count
abbrev pub raised : ℕ → ℕ
raised count = min (count + 1) (2 ^ 64 - 1)

-- so many more in such a count
abbrev pub raised_by : ℕ → ℕ → ℕ
raised_by count many = min (count + many) (2 ^ 64 - 1)
