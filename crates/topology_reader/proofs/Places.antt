-- The place of a name, found by a search or by a recursion.
use Rattle.std.proofs.Common.{◌≡◌, ℕ, zero, suc, ◌+◌, Bool, true, false, not, cond, List, [], ◌∷◌, length, map, Option, Some, None, option_map, position, nat_lt, refl, sym, ap, ◌∙◌, arith, rules, tests}
use Rattle.topology_reader.proofs.Common.{position_or_len, bytes_eq, map-id, place_of}

place_below : (below : Bool) (m : ℕ) → option_map suc (cond below (Some m) None) ≡ cond below (Some (1 + m)) None
place_below true m = ap (λ n. Some n) (omega arith)
place_below false m = refl

-- one place on
place_more : (passes : Bool) (m n : ℕ) (rest : Option ℕ) → rest ≡ cond (nat_lt m n) (Some m) None → cond passes (Some zero) (option_map suc rest) ≡ cond (nat_lt (cond (not passes) (1 + m) 0) (suc n)) (Some (cond (not passes) (1 + m) 0)) None
place_more true m n rest is = search (rules, tests)
place_more false m n rest is =
    let same : nat_lt (1 + m) (suc n) ≡ nat_lt m n = search (rules, tests) in
    rw (is, same) (place_below (nat_lt m n) m)

-- the place among things that have names
pub place_of-position : {A : Type 0} (name_of : A → List ℕ) (xs : List A) (name : List ℕ) → place_of (map name_of xs) name ≡ position (λ x. bytes_eq (name_of x) name) xs
place_of-position name_of [] name = refl
place_of-position name_of (x ∷ xs) name =
    place_more (bytes_eq (name_of x) name) (position_or_len (λ y. bytes_eq (name_of y) name) xs) (length xs) (place_of (map name_of xs) name) (place_of-position name_of xs name)

pub place_of-names : (names : List (List ℕ)) (name : List ℕ) → position (λ other. bytes_eq other name) names ≡ place_of names name
place_of-names names name = sym (place_of-position (λ (other : List ℕ). other) names name) ∙ ap (λ ns. place_of ns name) (map-id names)
