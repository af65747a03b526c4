-- Lists that are made of others.
use Rattle.std.proofs.Common.{◌≡◌, ◌<◌, ℕ, ◌+◌, not, Option, Some, None, option_map, List, [], ◌∷◌, ◌++◌, length, map, take, get_or, refl, sym, ap, ◌∙◌, arith}
use Rattle.topology_reader.proofs.Common.{take_more, map_push, enumerate_from, option_or, FileParts, NoField, name_at, is_among, fields_to, field_fault, append-nil}
use Rattle.std.specs.List.{find}
use Rattle.std.proofs.lemmas.List.Folds.{find-append}

pub map_same : {A B : Type 0} (f g : A → B) → ((a : A) → f a ≡ g a) → (xs : List A) → map f xs ≡ map g xs
map_same f g same [] = refl
map_same f g same (x ∷ xs) = let here = same x in let rest = map_same f g same xs in cc

-- of a list that is mapped in turn one item more
pub mapped_next : {X Y : Type 0} (f : X → Y) (xs : List X) (i : ℕ) (x : X) (old new : List Y) → i < length xs → x ≡ get_or xs i x → new ≡ old ++ f x ∷ [] → old ≡ map f (take i xs) → new ≡ map f (take (i + 1) xs)
mapped_next f xs i x old new below is added so_far =
    let longer : take (i + 1) xs ≡ take i xs ++ x ∷ [] = take_more xs i x below ∙ ap (λ y. take i xs ++ y ∷ []) (sym is) in
    added ∙ ap (λ ys. ys ++ f x ∷ []) so_far ∙ sym (ap (map f) longer ∙ map_push f (take i xs) x)

pub enumerate_append : {X : Type 0} (n : ℕ) (xs ys : List X) → enumerate_from n (xs ++ ys) ≡ enumerate_from n xs ++ enumerate_from (n + length xs) ys
enumerate_append n [] ys = ap (λ k. enumerate_from k ys) (omega arith)
enumerate_append n (x ∷ xs) ys =
    ap (λ zs. (n, x) ∷ zs) (enumerate_append (n + 1) xs ys) ∙ ap (λ k. (n, x) ∷ (enumerate_from (n + 1) xs ++ enumerate_from k ys)) (omega arith)

mapped_or : {X Y : Type 0} (f : X → Y) (a b : Option X) → option_map f (option_or a b) ≡ option_or (option_map f a) (option_map f b)
mapped_or f None b = refl
mapped_or f (Some x) b = refl

-- the first name of two lists that is no field is that of the first list, or that of the other
pub field_fault_of_both : (p : FileParts) (c : ℕ) (first others : List (List ℕ)) → field_fault p c (first ++ others) ≡ option_or (field_fault p c first) (field_fault p c others)
field_fault_of_both p c first others =
    let strange = λ (name : List ℕ). not (is_among (fields_to p c) name) in
    ap (option_map (NoField (name_at p c))) (find-append strange first others) ∙ mapped_or (NoField (name_at p c)) (find strange first) (find strange others)

pub none_more : (names : List (List ℕ)) → names ++ [] ≡ names
none_more names = append-nil names
