-- Lists that start with others.
use Rattle.std.specs.Prelude.{◌≡◌, List, length, take}

-- the first list starts with the second
abbrev pub StartsWith : {X : Type 0} → List X → List X → Type 0
StartsWith all first = take (length first) all ≡ first
