-- The XOR of the ids of a path's children, one child after another.
use Rattle.std.proofs.Common.{◌≡◌, ◌<◌, ◌∙◌, ℕ, zero, suc, ◌+◌, List, [], ◌∷◌, length, drop, bit_xor, refl, ap, arith}
use Rattle.std.specs.Prelude.{slice_index_or}
use Rattle.std.specs.Int.Bits.{xor_assoc}
use Rattle.tree_model.specs.tuple_tickets.Edges.{xor_ids}
use Rattle.message_lists.specs.Packed.{children_from}

-- it is the same from whichever number the children are counted
same_ids : (path : List ℕ) (k n : ℕ) (ids : List ℕ) → xor_ids (children_from path k ids) ≡ xor_ids (children_from path n ids)
same_ids path k n [] = refl
same_ids path k n (id ∷ ids) = ap (bit_xor id) (same_ids path (suc k) (suc n) ids)

child_less : (path : List ℕ) (k word : ℕ) (ids : List ℕ) (i : ℕ) → i < length ids
    → bit_xor (bit_xor word (slice_index_or ids i 0)) (xor_ids (children_from path k (drop (suc i) ids))) ≡ bit_xor word (xor_ids (children_from path k (drop i ids)))
child_less path k word [] i low = absurd (omega arith)
child_less path k word (id ∷ ids) zero low =
    xor_assoc word id (xor_ids (children_from path k ids)) ∙ ap (λ (w : ℕ). bit_xor word (bit_xor id w)) (same_ids path k (suc k) ids)
child_less path k word (id ∷ ids) (suc i) low = child_less path k word ids i (omega arith)

pub one_child_less : (path : List ℕ) (k word : ℕ) (ids : List ℕ) (i : ℕ) → i < length ids
    → bit_xor (bit_xor word (slice_index_or ids i 0)) (xor_ids (children_from path k (drop (i + 1) ids))) ≡ bit_xor word (xor_ids (children_from path k (drop i ids)))
one_child_less path k word ids i low =
    let next : i + 1 ≡ suc i = omega arith in
    ap (λ (n : ℕ). bit_xor (bit_xor word (slice_index_or ids i 0)) (xor_ids (children_from path k (drop n ids)))) next ∙ child_less path k word ids i low
