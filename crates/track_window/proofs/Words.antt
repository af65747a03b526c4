-- The XOR of ids, one more.
use Rattle.std.proofs.Common.{◌≡◌, ℕ, zero, suc, ◌+◌, ◌<◌, bit_xor, List, [], ◌∷◌, ◌++◌, take, get_or, length, sym, refl, ap, ◌∙◌, arith}
use Rattle.std.specs.Int.Bits.{xor_assoc, xor_zero_l, xor_zero_r}
use Rattle.tree_model.specs.tuple_tickets.declared.edge.Edge.{Edge}
use Rattle.tree_model.specs.tuple_tickets.Edges.{xor_ids}

pub xor_more : (edges : List Edge) (i : ℕ) (e : Edge) → i < length edges → e ≡ get_or edges i e → bit_xor (xor_ids (take i edges)) e.id ≡ xor_ids (take (i + 1) edges)
xor_more [] i e within at = absurd (omega (arith, within))
xor_more (x ∷ edges) zero e within at = xor_zero_l e.id ∙ ap (λ (y : Edge). y.id) at ∙ sym (xor_zero_r x.id)
xor_more (x ∷ edges) (suc i) e within at =
    let s : suc i + 1 ≡ suc (i + 1) = omega arith in
    xor_assoc x.id (xor_ids (take i edges)) e.id ∙ ap (bit_xor x.id) (xor_more edges i e (omega (arith, within)) at) ∙ ap (λ (k : ℕ). xor_ids (take k (x ∷ edges))) (sym s)
