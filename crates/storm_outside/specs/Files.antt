-- Files by name.
use Rattle.std.specs.Prelude.{◌≡◌, ℕ, List, Option, Some, option_map, find}
use Rattle.std.specs.Str.{bytes_eq}
use Rattle.std.proofs.Common.{sym, ◌∙◌}
use Rattle.std.proofs.lemmas.Option.{same_Some}

-- the bytes of the first file of this name
abbrev pub file_of : List (List ℕ × List ℕ) → List ℕ → Option (List ℕ)
file_of files name = option_map (λ file. file.1) (find (λ file. bytes_eq file.0 name) files)

-- it is one file
pub one_file : (files : List (List ℕ × List ℕ)) (name a b : List ℕ) → file_of files name ≡ Some a
    → file_of files name ≡ Some b → a ≡ b
one_file files name a b is_a is_b = same_Some a b (sym is_a ∙ is_b)
