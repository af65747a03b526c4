-- Where the files of parts lie.
use Rattle.std.specs.Prelude.{ℕ, List, ◌∷◌, ◌++◌, codes, decimal}

-- The file of a part of a component.
unfoldable pub path_of : ℕ → ℕ → List ℕ
path_of component part = codes "storm_state/" ++ (decimal component ++ 46 ∷ decimal part)
