-- Lists by the weights of their items. This project's own.
use Rattle.std.specs.Prelude.{◌≡◌, ◌≤◌, ℕ, ◌+◌, List, [], ◌∷◌}

-- the weights of the items, added up
abbrev pub weigh : {X : Type 0} → (X → ℕ) → List X → ℕ
weigh f [] = 0
weigh f (x ∷ xs) = f x + weigh f xs

-- Each item stands as often in both: whatever the items weigh, the lists weigh the same.
abbrev pub Same : {X : Type 0} → List X → List X → Type 0
Same {X} xs ys = (f : X → ℕ) → weigh f xs ≡ weigh f ys

-- each item stands at least as often in the second
abbrev pub Within : {X : Type 0} → List X → List X → Type 0
Within {X} xs ys = (f : X → ℕ) → weigh f xs ≤ weigh f ys
