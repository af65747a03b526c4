-- Paths in a tree: the places of children, one number a level.
use Rattle.std.specs.Prelude.{ℕ, zero, suc, Bool, if◌then◌else◌, List, [], ◌∷◌, ◌++◌}
use Rattle.std.specs.Str.{bytes_eq}

-- whether two paths are one
abbrev pub path_eq : List ℕ → List ℕ → Bool
path_eq = bytes_eq

-- the weight that is 1 at a path
abbrev pub is_path : List ℕ → List ℕ → ℕ
is_path path p = if path_eq p path then 1 else 0

-- the paths below a path, this many of them from the place j on
abbrev pub paths_below : List ℕ → ℕ → ℕ → List (List ℕ)
paths_below path j zero = []
paths_below path j (suc n) = (path ++ j ∷ []) ∷ paths_below path (suc j) n
