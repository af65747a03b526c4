-- Where nothing waits and nothing stayed mute, a list of all that was said of a begun root covers the root's tree.
use Rattle.std.proofs.Common.{◌≡◌, ◌≢◌, ℕ, suc, ◌+◌, ◌<◌, ◌≤◌, ◌==◌, ◌&&◌, Bool, true, false, cond, true≢false, List, [], ◌∷◌, ◌++◌, length, map, Some, slice_get, sym, refl, ap, subst, ◌∙◌, eq-eqb, arith}
use Rattle.std.specs.Coded.{Coded}
use Rattle.std.specs.List.{AllByRecursion, flat_map}
use Rattle.storm_values.specs.declared.value.Root.{Root}
use Rattle.counted_items.specs.Weights.{weigh, Within}
use Rattle.counted_items.proofs.Each.{each-both}
use Rattle.counted_items.proofs.Equality.{and-true}
use Rattle.counted_items.proofs.Weighing.{weigh-append, weigh-map, weigh-flat_map, weigh-le_each, weigh-plus}
use Rattle.tuple_tickets.specs.Lists.{Message, consumes, is_init, is_failed, Covers}
use Rattle.tuple_tickets.specs.Notes.{said_about, init_note, notes_by, notes_of, issued_notes}
use Rattle.tuple_tickets.specs.Paths.{path_eq}
use Rattle.tuple_tickets.specs.Roots.{root_eq}
use Rattle.tuple_tickets.specs.Tickets.{Ticket, Begun, Run, Account, is_begun, is_at, tickets_from, first_tickets, made_by, made_of, issued, IsBegun, IsRun, IsAccount, IsNode}
use Rattle.tuple_tickets.specs.Trees.{Course, goes, fails, mute, Growth, node_at}
use Rattle.tuple_tickets.proofs.Once.{ticket, issued_weight, used_nodes, at_place, and_then-some, led}
use Rattle.tuple_tickets.proofs.Paths.{by_ends, same_path, path_itself, slice_get-below}
use Rattle.tuple_tickets.proofs.Roots.{same_root, root_itself}
use Rattle.tuple_tickets.proofs.Told.{of_root, weigh-said_about}

module _ {N : Type 0} where
  -- of tickets below the path itself there is one at each place that has a node and an id
  below_has : (r : Root) (q : List ℕ) (k j : ℕ) (ns : List N) (ids : List ℕ) → length ids ≡ length ns → j ≤ k → k < j + length ns → 1 ≤ weigh (is_at r (q ++ k ∷ [])) (tickets_from r q j ns ids)
  below_has r q k j [] ids same low high = absurd (omega arith)
  below_has r q k j (n ∷ ns) [] same low high = absurd (omega arith)
  below_has r q k j (n ∷ ns) (id ∷ ids) same low high = cases (j == k) refl (below_has r q k (suc j) ns ids (omega arith))
    where
      here : (b : Bool) → (j == k) ≡ b → is_at r (q ++ k ∷ []) (ticket r (q ++ j ∷ []) id n) ≡ cond b 1 0
      here b is = at_place r q k r q j id n ∙ rw (root_itself r r refl, path_itself q, is) refl

      cases : (b : Bool) → (j == k) ≡ b → (suc j ≤ k → k < suc j + length ns → 1 ≤ weigh (is_at r (q ++ k ∷ [])) (tickets_from r q (suc j) ns ids))
          → 1 ≤ is_at r (q ++ k ∷ []) (ticket r (q ++ j ∷ []) id n) + weigh (is_at r (q ++ k ∷ [])) (tickets_from r q (suc j) ns ids)
      cases true is later = let h = here true is in omega arith
      cases false is later = let apart : j ≢ k = λ e. true≢false (sym (eq-eqb j k e) ∙ is) in let rest = later (omega arith) (omega arith) in omega arith

module _ {N : Type 0} (coded : Coded N) (g : Growth N) (a : Account N) (account : IsAccount g a) (none_waits : (f : Ticket N → ℕ) → a.waiting f ≡ 0)
    (none_mute : AllByRecursion (λ (u : Run N). g.course u.ticket.root u.ticket.node ≢ mute) a.runs)
    (r : Root) (list : List Message) (has_all : Within (said_about r (issued_notes g a)) list) (begun : 1 ≤ weigh (is_begun r) a.begun) (none_failed : weigh is_failed list ≡ 0) where
  -- each issued ticket was used
  all_used : (f : Ticket N → ℕ) → weigh f (issued g a) ≡ weigh (λ (u : Run N). f u.ticket) a.runs
  all_used f = let e = account.balanced f in let z = none_waits f in omega arith

  -- what was said of the root by the roots that began and by the used tickets is in the list
  in_list : (f : Message → ℕ) → weigh (λ (b : Begun). of_root r f (init_note g b)) a.begun + weigh (λ (u : Run N). weigh (of_root r f) (notes_of g u)) a.runs ≤ weigh f list
  in_list f =
      let h = has_all f in
      let s = weigh-said_about r f (issued_notes g a) in
      let b = weigh-append (of_root r f) (map (init_note g) a.begun) (flat_map (notes_of g) a.runs) in
      let m = weigh-map (of_root r f) (init_note g) a.begun in
      let c = weigh-flat_map (of_root r f) (notes_of g) a.runs in omega arith

  no_failures : weigh (λ (u : Run N). weigh (of_root r is_failed) (notes_of g u)) a.runs ≡ 0
  no_failures = let h = in_list is_failed in omega arith

  -- a used ticket at a path is consumed, or it failed
  consumed_or_failed : (p : List ℕ) (u : Run N) → g.course u.ticket.root u.ticket.node ≢ mute
      → is_at r p u.ticket ≤ weigh (of_root r (consumes p)) (notes_of g u) + weigh (of_root r is_failed) (notes_of g u)
  consumed_or_failed p u speaks = cases (g.course u.ticket.root u.ticket.node) speaks
    where
      sums : (t c : Bool) → cond (t && c) 1 0 ≤ (cond t (cond c 1 0) 0 + 0) + (cond t 0 0 + 0)
      sums true true = omega arith
      sums true false = omega arith
      sums false c = omega arith

      fails_here : (t c : Bool) → cond (t && c) 1 0 ≤ (cond t 0 0 + 0) + (cond t 1 0 + 0)
      fails_here true true = omega arith
      fails_here true false = omega arith
      fails_here false c = omega arith

      cases : (c : Course) → c ≢ mute → is_at r p u.ticket ≤ weigh (of_root r (consumes p)) (notes_by g u c) + weigh (of_root r is_failed) (notes_by g u c)
      cases goes speaks = sums (root_eq u.ticket.root r) (path_eq u.ticket.edge.path p)
      cases fails speaks = fails_here (root_eq u.ticket.root r) (path_eq u.ticket.edge.path p)
      cases mute speaks = absurd (speaks refl)

  -- what was issued at a path is consumed in the list
  consumed : (p : List ℕ) → 1 ≤ weigh (is_at r p) (issued g a) → 1 ≤ weigh (consumes p) list
  consumed p some =
      let e = all_used (is_at r p) in
      let l = weigh-le_each (λ (u : Run N). is_at r p u.ticket) (λ (u : Run N). weigh (of_root r (consumes p)) (notes_of g u) + weigh (of_root r is_failed) (notes_of g u))
      (λ (u : Run N). g.course u.ticket.root u.ticket.node ≢ mute) (consumed_or_failed p) a.runs none_mute in
      let s = weigh-plus (λ (u : Run N). weigh (of_root r (consumes p)) (notes_of g u)) (λ (u : Run N). weigh (of_root r is_failed) (notes_of g u)) a.runs in
      let z = no_failures in
      let h = in_list (consumes p) in omega arith

  -- ---- each path of the tree was issued

  first_issued : (k : ℕ) (n : N) → node_at g r (k ∷ []) ≡ Some n → 1 ≤ weigh (is_at r (k ∷ [])) (issued g a)
  first_issued k n there =
      let few : k < length (g.firsts r) = slice_get-below (g.firsts r) k n (sym (and_then-some (slice_get (g.firsts r) k)) ∙ there) in
      let e = issued_weight g a (is_at r (k ∷ [])) in
      let l = weigh-le_each (is_begun r) (λ (b : Begun). weigh (is_at r (k ∷ [])) (first_tickets g b)) (IsBegun g) (λ b well. cases b well few (root_eq b.root r) refl) a.begun account.begun_well in omega arith
    where
      cases : (b : Begun) → IsBegun g b → k < length (g.firsts r) → (t : Bool) → root_eq b.root r ≡ t → cond t 1 0 ≤ weigh (is_at r (k ∷ [])) (first_tickets g b)
      cases b well few false is = omega arith
      cases b well few true is =
          let same = same_root b.root r is in
          subst (λ (z : Root). 1 ≤ weigh (is_at r (k ∷ [])) (tickets_from z [] 0 (g.firsts z) b.ids)) (sym same) (below_has r [] k 0 (g.firsts r) b.ids (well ∙ ap (λ (z : Root). length (g.firsts z)) same) (omega arith) (omega arith))

  later_issued : (i : ℕ) (q : List ℕ) (k : ℕ) (n : N) → node_at g r ((i ∷ q) ++ k ∷ []) ≡ Some n → 1 ≤ weigh (is_at r (i ∷ q)) (issued g a) → 1 ≤ weigh (is_at r ((i ∷ q) ++ k ∷ [])) (issued g a)
  later_issued i q k n there some =
      let up = led g r i q k n there in
      let few : k < length (g.kids up.0) = slice_get-below (g.kids up.0) k n up.2 in
      let x = all_used (is_at r (i ∷ q)) in
      let e = issued_weight g a (is_at r ((i ∷ q) ++ k ∷ [])) in
      let z = no_failures in
      let s = weigh-plus (λ (u : Run N). weigh (is_at r ((i ∷ q) ++ k ∷ [])) (made_of g u)) (λ (u : Run N). weigh (of_root r is_failed) (notes_of g u)) a.runs in
      let l = weigh-le_each (λ (u : Run N). is_at r (i ∷ q) u.ticket) (λ (u : Run N). weigh (is_at r ((i ∷ q) ++ k ∷ [])) (made_of g u) + weigh (of_root r is_failed) (notes_of g u))
      (λ (u : Run N). (IsRun g u × IsNode g u.ticket) × (g.course u.ticket.root u.ticket.node ≢ mute))
      (λ u all. made u up.0 up.1 few all.0.0 all.0.1 all.1 (root_eq u.ticket.root r && path_eq u.ticket.edge.path (i ∷ q)) refl) a.runs
      (each-both (λ (u : Run N). IsRun g u × IsNode g u.ticket) (λ (u : Run N). g.course u.ticket.root u.ticket.node ≢ mute) a.runs
      (each-both (IsRun g) (λ (u : Run N). IsNode g u.ticket) a.runs account.runs_well (used_nodes g coded a account)) none_mute) in omega arith
    where
      made : (u : Run N) (m : N) → node_at g r (i ∷ q) ≡ Some m → k < length (g.kids m) → IsRun g u → IsNode g u.ticket → g.course u.ticket.root u.ticket.node ≢ mute
          → (t : Bool) → (root_eq u.ticket.root r && path_eq u.ticket.edge.path (i ∷ q)) ≡ t
          → cond t 1 0 ≤ weigh (is_at r ((i ∷ q) ++ k ∷ [])) (made_of g u) + weigh (of_root r is_failed) (notes_of g u)
      made u m there few well node speaks false is = omega arith
      made u m there few well node speaks true is = by_course (g.course u.ticket.root u.ticket.node) refl
        where
          both : (root_eq u.ticket.root r ≡ true) × (path_eq u.ticket.edge.path (i ∷ q) ≡ true)
          both = and-true (root_eq u.ticket.root r) (path_eq u.ticket.edge.path (i ∷ q)) is

          root : u.ticket.root ≡ r
          root = same_root u.ticket.root r both.0

          path : u.ticket.edge.path ≡ i ∷ q
          path = same_path u.ticket.edge.path (i ∷ q) both.1

          its_node : u.ticket.node ≡ m
          its_node = let found : Some u.ticket.node ≡ Some m = sym node ∙ (λ x. node_at g (root x) (path x)) ∙ there in cc

          by_course : (c : Course) → g.course u.ticket.root u.ticket.node ≡ c
              → 1 ≤ weigh (is_at r ((i ∷ q) ++ k ∷ [])) (made_by c (tickets_from u.ticket.root u.ticket.edge.path 0 (g.kids u.ticket.node) u.ids)) + weigh (of_root r is_failed) (notes_by g u c)
          by_course goes course =
              let within : k < length (g.kids u.ticket.node) = rw its_node few in
              let one : 1 ≤ weigh (is_at r ((i ∷ q) ++ k ∷ [])) (tickets_from u.ticket.root u.ticket.edge.path 0 (g.kids u.ticket.node) u.ids) =
              rw (root, path) (below_has r (i ∷ q) k 0 (g.kids u.ticket.node) u.ids (well course) (omega arith) (omega arith)) in
              omega arith
          by_course fails course = rw both.0 (omega arith)
          by_course mute course = absurd (speaks course)

  covered : (p : List ℕ) (n : N) → node_at g r p ≡ Some n → 1 ≤ weigh (is_at r p) (issued g a)
  covered = by_ends (λ p. (n : N) → node_at g r p ≡ Some n → 1 ≤ weigh (is_at r p) (issued g a)) (λ n there. absurd (cc)) more
    where
      more : (q : List ℕ) (k : ℕ) → ((n : N) → node_at g r q ≡ Some n → 1 ≤ weigh (is_at r q) (issued g a)) → (n : N) → node_at g r (q ++ k ∷ []) ≡ Some n → 1 ≤ weigh (is_at r (q ++ k ∷ [])) (issued g a)
      more [] k before n there = first_issued k n there
      more (i ∷ q) k before n there = let up = led g r i q k n there in later_issued i q k n there (before up.0 up.1)

  -- the list covers the tree
  pub all_covered : Covers g r list
  all_covered = record {
    begins = let h = in_list is_init in let b = begins in omega arith;
    consumed = λ p n there. consumed p (covered p n there);
  }
    where
      begins : 1 ≤ weigh (λ (b : Begun). of_root r is_init (init_note g b)) a.begun
      begins = begun
