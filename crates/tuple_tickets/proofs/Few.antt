-- A root has no more issued tickets than its tree has paths.
use Rattle.std.proofs.Common.{◌≡◌, ℕ, ◌≤◌, ◌&&◌, Bool, true, false, cond, List, length, Some, Contains, refl, subst, arith}
use Rattle.std.specs.Coded.{Coded}
use Rattle.storm_values.specs.declared.value.Root.{Root}
use Rattle.counted_items.specs.Weights.{weigh}
use Rattle.counted_items.proofs.Weighing.{weigh-le_each, weigh-few, weigh-swap, item-weighs}
use Rattle.tuple_tickets.specs.Paths.{path_eq}
use Rattle.tuple_tickets.specs.Roots.{root_eq}
use Rattle.tuple_tickets.specs.Tickets.{Ticket, Account, is_of, is_at, issued, IsAccount, IsNode}
use Rattle.tuple_tickets.specs.Trees.{Growth, node_at}
use Rattle.tuple_tickets.proofs.Once.{once, nodes}
use Rattle.tuple_tickets.proofs.Paths.{path_itself}
use Rattle.tuple_tickets.proofs.Roots.{same_root}

-- a path that stands in a list is counted there
counted_path : (ps : List (List ℕ)) (path : List ℕ) → Contains ps path → 1 ≤ weigh (λ p. cond (path_eq path p) 1 0) ps
counted_path ps path there =
    let one : ◌≡◌ {A = ℕ} (cond (path_eq path path) 1 0) 1 = rw (path_itself path) refl in
    let w = item-weighs {X = List ℕ} (λ p. cond (path_eq path p) 1 0) ps path there in omega arith

module _ {N : Type 0} (coded : Coded N) (g : Growth N) (a : Account N) (account : IsAccount g a) (r : Root) (ps : List (List ℕ)) (all : (path : List ℕ) (n : N) → node_at g r path ≡ Some n → Contains ps path) where
  one_of : (t : Ticket N) → IsNode g t → is_of r t ≤ weigh (λ p. is_at r p t) ps
  one_of t node = cases (root_eq t.root r) refl
    where
      cases : (b : Bool) → root_eq t.root r ≡ b → cond b 1 0 ≤ weigh (λ p. cond (b && path_eq t.edge.path p) 1 0) ps
      cases true is = counted_path ps t.edge.path (all t.edge.path t.node (subst (λ (q : Root). node_at g q t.edge.path ≡ Some t.node) (same_root t.root r is) node))
      cases false is = omega arith

  pub few : weigh (is_of r) (issued g a) ≤ length ps
  few =
      let l = weigh-le_each (is_of r) (λ (t : Ticket N). weigh (λ p. is_at r p t) ps) (IsNode g) one_of (issued g a) (nodes g coded a account) in
      let s = weigh-swap (is_at r) ps (issued g a) in
      let m = weigh-few (λ p. weigh (is_at r p) (issued g a)) (once g a account r) ps in omega arith
