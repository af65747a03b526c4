-- Files found by name.
use Rattle.std.proofs.Common.{◌≡◌, ℕ, ◌<◌, ◌≤◌, Bool, true, false, cond, nat_lt, List, [], ◌∷◌, ◌++◌, length, Option, Some, None, MatchOption, option_map, IsTrue, IsSome, is_some, find, position, slice_index_or, refl, ap, ◌∙◌, arith}
use Rattle.std.specs.List.{position_or_len}
use Rattle.std.specs.Option.{option_or}
use Rattle.std.specs.Str.{bytes_eq}
use Rattle.std.proofs.lemmas.Bool.Decides.{nat_tests}
use Rattle.std.proofs.lemmas.List.Folds.{find_at, find-append}
use Rattle.std.proofs.lemmas.Option.{slice_get-get_or, slice_get_past}
use Rattle.std.proofs.lemmas.Slice.Eq.{bytes_eq-Decides}
use Rattle.storm_outside.specs.Files.{file_of}

-- a name in a list of files
abbrev named : List ℕ → List ℕ × List ℕ → Bool
named name file = bytes_eq file.0 name

first_here : (files : List (List ℕ × List ℕ)) (name : List ℕ) (i : ℕ) (b : Bool) → i ≡ position_or_len (named name) files → b ≡ nat_lt i (length files) → MatchOption (cond b (Some i) None) (file_of files name ≡ None) (λ i. (i < length files) × (file_of files name ≡ Some (slice_index_or files i ([], [])).1))
first_here files name i true at within =
    let lt : i < length files = grind (arith, nat_tests) in
    (lt, rw (find_at (named name) files, ← at, slice_get-get_or files i ([], []) lt) refl)
first_here files name i false at within =
    let past : length files ≤ i = grind (arith, nat_tests) in
    rw (find_at (named name) files, ← at, slice_get_past files i past) refl

-- where the file of a name stands
pub found_at : (files : List (List ℕ × List ℕ)) (name : List ℕ) (r : Option ℕ) → r ≡ position (λ file. bytes_eq file.0 name) files → MatchOption r (file_of files name ≡ None) (λ i. (i < length files) × (file_of files name ≡ Some (slice_index_or files i ([], [])).1))
found_at files name r is = rw is (first_here files name _ _ refl refl)

-- the same for a slice of the files
pub file_of-here : (files slice : List (List ℕ × List ℕ)) (name : List ℕ) (i : ℕ) → slice ≡ files → Some i ≡ position (λ file. bytes_eq file.0 name) slice → file_of files name ≡ Some (slice_index_or files i ([], [])).1
file_of-here files slice name i same is = (found_at files name (Some i) (is ∙ ap (position (named name)) same)).1

pub file_of-nowhere : (files slice : List (List ℕ × List ℕ)) (name : List ℕ) → slice ≡ files → None ≡ position (λ file. bytes_eq file.0 name) slice → file_of files name ≡ None
file_of-nowhere files slice name same is = found_at files name None (is ∙ ap (position (named name)) same)

-- a file of a name is there where one was found
pub is_found : (files slice : List (List ℕ × List ℕ)) (name : List ℕ) (r : Option ℕ) (found : Bool) → slice ≡ files → r ≡ position (λ file. bytes_eq file.0 name) slice → found ≡ is_some r → (IsTrue found → IsSome (file_of files name)) × (IsSome (file_of files name) → IsTrue found)
is_found files slice name None found same is test = rw (test, file_of-nowhere files slice name same is) (λ x. x, λ x. x)
is_found files slice name (Some i) found same is test = rw (test, file_of-here files slice name i same is) (λ x. x, λ x. x)

-- a file behind the others is found by its name, where no other has it
after_none : (o : Option (List ℕ × List ℕ)) (file : List ℕ × List ℕ) → option_map (λ file. file.1) o ≡ None → option_map (λ file. file.1) (option_or o (Some file)) ≡ Some file.1
after_none None file absent = refl
after_none (Some other) file absent = cc

same_bytes : (name : List ℕ) → bytes_eq name name ≡ true
same_bytes name = (bytes_eq-Decides name name).1 refl

pub file_of-new : (files : List (List ℕ × List ℕ)) (name bytes : List ℕ) → file_of files name ≡ None → file_of (files ++ (name, bytes) ∷ []) name ≡ Some bytes
file_of-new files name bytes absent =
    rw (find-append (named name) files ((name, bytes) ∷ []), same_bytes name) (after_none (find (named name) files) (name, bytes) absent)

-- and each other as before
before_more : (o more : Option (List ℕ × List ℕ)) (bytes : List ℕ) → option_map (λ file. file.1) o ≡ Some bytes → option_map (λ file. file.1) (option_or o more) ≡ Some bytes
before_more None more bytes held = cc
before_more (Some file) more bytes held = held

pub file_of-kept : (files : List (List ℕ × List ℕ)) (file : List ℕ × List ℕ) (n bytes : List ℕ) → file_of files n ≡ Some bytes → file_of (files ++ file ∷ []) n ≡ Some bytes
file_of-kept files file n bytes held =
    rw (find-append (named n) files (file ∷ [])) (before_more (find (named n) files) (find (named n) (file ∷ [])) bytes held)
