-- Lists by the XOR of what their items say. This project's own.
use Rattle.std.specs.Prelude.{ℕ, bit_xor, List, [], ◌∷◌}

-- the XOR of what the items say
abbrev pub xor_by : {X : Type 0} → (X → ℕ) → List X → ℕ
xor_by f [] = 0
xor_by f (x ∷ xs) = bit_xor (f x) (xor_by f xs)
