-- The order of edges.
use Rattle.std.proofs.Common.{◌≡◌, Bool, true, false, cond, nat_lt, ◌==◌, eqb-true, Ordering, Less, Equal, Greater, is_eq, nat_cmp, sym, refl, ap, ◌∙◌}
use Rattle.std.proofs.lemmas.Cmp.{nat_cmp_total, nat_list_cmp_total, then_total, on_total}
use Rattle.std.proofs.lemmas.Map.Text.{is_eq-slice_cmp}
use Rattle.std.specs.Cmp.{IsTotalOrder}
use Rattle.std.specs.Ordering.{ordering_then}
use Rattle.storm_values.specs.Order.{path_cmp}
use Rattle.tuple_tickets.specs.declared.edge.Edge.{Edge}
use Rattle.tuple_tickets.specs.Edges.{edge_cmp}
use Rattle.tuple_tickets.proofs.Paths.{same_path}

pub edge_cmp-total : IsTotalOrder edge_cmp
edge_cmp-total = then_total (on_total (λ (e : Edge). e.path) nat_list_cmp_total) (on_total (λ (e : Edge). e.id) nat_cmp_total)

both_equal : (a b : Ordering) → ordering_then a b ≡ Equal → (a ≡ Equal) × (b ≡ Equal)
both_equal Equal b e = (refl, e)
both_equal Less b e = absurd (cc)
both_equal Greater b e = absurd (cc)

pub edge_cmp-apart : (a b : Edge) → edge_cmp a b ≡ Equal → a ≡ b
edge_cmp-apart a b e =
    let both = both_equal (path_cmp a.path b.path) (nat_cmp a.id b.id) e in
    let p = same_path a.path b.path (sym (is_eq-slice_cmp a.path b.path) ∙ ap is_eq both.0) in
    let q = same_id (nat_lt a.id b.id) (a.id == b.id) (eqb-true a.id b.id) both.1 in λ i. record { path = p i; id = q i }
  where
    same_id : (less same : Bool) → (same ≡ true → a.id ≡ b.id) → cond less Less (cond same Equal Greater) ≡ Equal → a.id ≡ b.id
    same_id true same is_same equal = absurd (cc)
    same_id false true is_same equal = is_same refl
    same_id false false is_same equal = absurd (cc)
