-- The children of a path by their ids, one more.
use Rattle.std.proofs.Common.{◌≡◌, ◌<◌, ◌∙◌, ℕ, zero, suc, ◌+◌, List, [], ◌∷◌, ◌++◌, length, take, get_or, refl, ap, arith}
use Rattle.std.proofs.Math.Seq.{take-suc}
use Rattle.tree_model.specs.tuple_tickets.declared.edge.Edge.{Edge}
use Rattle.message_lists.specs.Packed.{children_from}

children-push : (path : List ℕ) (k n : ℕ) (ids : List ℕ) (id : ℕ) → n ≡ k + length ids
    → children_from path k (ids ++ id ∷ []) ≡ children_from path k ids ++ record { path = path ++ n ∷ []; id = id } ∷ []
children-push path k n [] id is =
    let same : k ≡ n = omega arith in λ i. record { path = path ++ same i ∷ []; id = id } ∷ []
children-push path k n (x ∷ ids) id is =
    ap (λ (es : List Edge). record { path = path ++ k ∷ []; id = x } ∷ es) (children-push path (suc k) n ids id (omega arith))

length-take : (n : ℕ) (xs : List ℕ) → n < length xs → length (take n xs) ≡ n
length-take zero xs low = refl
length-take (suc n) [] low = absurd (omega arith)
length-take (suc n) (x ∷ xs) low = ap suc (length-take n xs (omega arith))

pub one_child_more : (path : List ℕ) (n : ℕ) (ids : List ℕ) (d : ℕ) → n < length ids
    → children_from path 0 (take (suc n) ids) ≡ children_from path 0 (take n ids) ++ record { path = path ++ n ∷ []; id = get_or ids n d } ∷ []
one_child_more path n ids d low =
    ap (children_from path 0) (take-suc ids n d low)
    ∙ children-push path 0 n (take n ids) (get_or ids n d) (let l = length-take n ids low in omega arith)
