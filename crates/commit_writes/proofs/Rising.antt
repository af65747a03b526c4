-- Paths in order, each once.
use Rattle.std.proofs.Common.{◌≡◌, ℕ, ◌≤◌, false, true≢false, List, [], ◌∷◌, map, Less, Equal, Greater, is_gt, refl, subst, arith}
use Rattle.std.proofs.lemmas.Map.Lookups.{exact_bytes}
use Rattle.std.specs.List.{AllByRecursion}
use Rattle.std.specs.List.Sorted.{IsStrictlySortedBy}
use Rattle.tree_model.specs.counted_items.Weights.{weigh}
use Rattle.tree_model.proofs.counted_items.Each.{each-to_map}
use Rattle.tree_model.specs.storm_values.Order.{path_cmp}
use Rattle.tree_model.specs.tuple_tickets.Paths.{is_path}
use Rattle.tree_model.proofs.tuple_tickets.Paths.{path_itself}
use Rattle.tree_model.specs.declared.messages.Done.{Done}
use Rattle.commit_writes.specs.Writes.{AreInPathOrder}

-- the path that a done consumes
abbrev pub path_of : Done → List ℕ
path_of d = d.consumed.path

is_path-itself : (p : List ℕ) → is_path p p ≡ 1
is_path-itself p = rw (path_itself p) refl

-- a path that is not above another is the other or below it
is_below : (p q : List ℕ) → is_gt (path_cmp p q) ≡ false → is_path p q ≡ 0 → path_cmp p q ≡ Less
is_below p q low apart =
    elim (path_cmp p q) as (λ o. path_cmp p q ≡ o → is_gt o ≡ false → path_cmp p q ≡ Less) [
      | Less ↦ λ is low. is
      | Equal ↦ λ is low. let one : is_path p q ≡ 1 = subst (λ z. is_path p z ≡ 1) (exact_bytes p q is) (is_path-itself p) in absurd (omega arith)
      | Greater ↦ λ is low. absurd (true≢false low)
    ] refl low

-- a path that is above none of some others, and none of them, is below each
below_each : (p : List ℕ) (ps : List (List ℕ)) → AllByRecursion (λ q. is_gt (path_cmp p q) ≡ false) ps → weigh (is_path p) ps ≡ 0 → AllByRecursion (λ q. path_cmp p q ≡ Less) ps
below_each p [] low none = tt
below_each p (q ∷ ps) low none = (is_below p q low.0 (omega arith), below_each p ps low.1 (omega arith))

-- dones in path order of which no two consume one path have paths that rise
pub rising : (ds : List Done) → AreInPathOrder ds → ((p : List ℕ) → weigh (is_path p) (map path_of ds) ≤ 1) → IsStrictlySortedBy path_cmp (map path_of ds)
unfolding IsStrictlySortedBy
rising [] ordered once = tt
rising (d ∷ ds) ordered once = (
  below_each (path_of d) (map path_of ds) (each-to_map (λ q. is_gt (path_cmp (path_of d) q) ≡ false) path_of ds ordered.0)
      (let one = once (path_of d) in let itself = is_path-itself (path_of d) in omega arith),
  rising ds ordered.1 (λ p. let one = once p in omega arith),
)
