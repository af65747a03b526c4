-- How many words a source gives at most.
use Rattle.std.proofs.Common.{◌≡◌, ◌≤◌, ℕ, zero, suc, ◌+◌, ◌*◌, ◌==◌, Bool, true, false, cond, List, [], ◌∷◌, length, sym, refl, ap, ◌∙◌, arith}
use Rattle.std.specs.List.{AllByRecursion}
use Rattle.tree_model.specs.bolt_ops.RowOp.{Custom}
use Rattle.tree_model.specs.counted_items.Weights.{weigh}
use Rattle.tree_model.proofs.counted_items.Each.{each-both}
use Rattle.tree_model.proofs.counted_items.Weighing.{weigh-le, weigh-le_each, weigh-same_each, weigh-swap, weigh-ones, each-weighs}
use Rattle.tree_model.specs.storm_values.declared.value.Root.{Root}
use Rattle.tree_model.specs.topology_plan.declared.parts.Origin.TheVariants as origin
use Rattle.tree_model.specs.topology_plan.Topology.{Topology}
use Rattle.tree_model.specs.topology_plan.Valid.{IsValid}
use Rattle.tree_model.specs.tuple_tickets.Roots.{root_eq}
use Rattle.tree_model.specs.tuple_tickets.Tickets.{made_by}
use Rattle.tree_model.specs.tuple_tickets.Trees.{Course, goes, fails, mute}
use Rattle.tree_model.proofs.tuple_tickets.Roots.{same_root, root_itself}
use Rattle.tree_model.specs.declared.messages.Tuple.{Tuple}
use Rattle.tree_model.specs.Trees.{Node, kids, kids_of, nodes_of, node_count}
use Rattle.tuple_account.specs.Accounts.{is_of}
use Rattle.tuple_account.specs.Accounts as tuples
use Rattle.tuple_account.specs.Issued.{node_of, tuples_from, first_tuples, course_of_run, children_of}
use Rattle.tuple_account.specs.Drawn.{started}
use Rattle.tuple_account.specs.Histories.{Start, Opening, Execution, History, IsOpening, IsExecution, start_spans, opening_spans, execution_spans, drawn_in, rows_in}
use Rattle.tuple_account.specs.Moves.{Station, Reached, account_of}
use Rattle.tuple_account.specs.Places.{before}
use Rattle.tuple_account.specs.Stretches.{sum_below}
use Rattle.tuple_account.proofs.Placing.{sum-add, sum-same, sum-zero, sum-before, sum-span}
use Rattle.tuple_account.proofs.Reading.{tuples_are, few, rows_are_found}

-- ---- sums

-- sums over places and over items can be exchanged
pub sum-weigh : {X : Type 0} (g : ℕ → X → ℕ) (n : ℕ) (xs : List X) → sum_below (λ i. weigh (λ x. g i x) xs) n ≡ weigh (λ x. sum_below (λ i. g i x) n) xs
sum-weigh g n [] = sum-zero n
sum-weigh g n (x ∷ xs) = let a = sum-add (λ i. g i x) (λ i. weigh (λ y. g i y) xs) n in let rest = sum-weigh g n xs in omega arith

weigh-const : {X : Type 0} (c : ℕ) (xs : List X) → weigh (λ x. c) xs ≡ length xs * c
weigh-const c [] = omega arith
weigh-const c (x ∷ xs) = omega (arith, weigh-const c xs)

cond-le : (b : Bool) (n : ℕ) → cond b n 0 ≤ n
cond-le true n = omega arith
cond-le false n = omega arith

-- ---- tuples and ids

as_many : (root : Root) (path : List ℕ) (j : ℕ) (nodes : List Node) (ids : List ℕ) → length ids ≡ length nodes → length (tuples_from root path j nodes ids) ≡ length ids
as_many root path j [] [] same = refl
as_many root path j [] (id ∷ ids) same = absurd (omega arith)
as_many root path j (node ∷ nodes) [] same = absurd (omega arith)
as_many root path j (node ∷ nodes) (id ∷ ids) same = ap suc (as_many root path (suc j) nodes ids (omega arith))

made_many : (root : Root) (path : List ℕ) (nodes : List Node) (ids : List ℕ) (c : Course) → length ids ≡ length (made_by c nodes) → length (made_by c (tuples_from root path 0 nodes ids)) ≡ length ids
made_many root path nodes ids goes same = as_many root path 0 nodes ids same
made_many root path nodes ids fails same = sym same
made_many root path nodes ids mute same = sym same

-- a root that was not begun has no rows
rows_none : (root : Root) (os : List Opening) → weigh (λ (o : Opening). cond (root_eq root o.begun.root) 1 0) os ≡ 0 → rows_in os root ≡ []
rows_none root [] none = refl
rows_none root (o ∷ os) none = cases (root_eq o.begun.root root) refl (rows_none root os (omega arith))
  where
    cases : (b : Bool) → root_eq o.begun.root root ≡ b → rows_in os root ≡ [] → cond b o.begun.rows (rows_in os root) ≡ []
    cases false is rest = rest
    cases true is rest = let here : ◌≡◌ {A = ℕ} (cond (root_eq root o.begun.root) 1 0) 1 = rw (root_itself root o.begun.root (sym (same_root o.begun.root root is))) refl in absurd (omega arith)

no_nodes : (t : Topology) (custom : Custom) → node_count t custom [] ≡ 0
unfolding nodes_of
no_nodes t custom = refl

module _ (t : Topology) (custom : Custom) (h : History) (b : Station) (reached : Reached t custom h b) (valid : IsValid t) where
  abbrev all : List Tuple
  all = tuples.issued t custom (account_of h b)

  -- as many ids were drawn as tuples were issued
  ids_weight : weigh (λ (o : Opening). length o.begun.ids) h.begun + weigh (λ (e : Execution). length e.run.ids) h.runs ≡ length all
  ids_weight =
      let a = tuples_are t custom h b reached (λ x. 1) in
      let n = weigh-ones all in
      let o = weigh-same_each (λ (o : Opening). weigh (λ (x : Tuple). 1) (first_tuples t o.begun)) (λ (o : Opening). length o.begun.ids) (IsOpening t)
      (λ o is. weigh-ones (first_tuples t o.begun) ∙ as_many o.begun.root [] 0 (kids t origin.Spout o.begun.rows) o.begun.ids is.ids) h.begun reached.moves.well.begun in
      let e = weigh-same_each (λ (e : Execution). weigh (λ (x : Tuple). 1) (children_of t custom e.run)) (λ (e : Execution). length e.run.ids) (IsExecution t custom)
      (λ e is. weigh-ones (children_of t custom e.run) ∙ made_many e.run.tuple.root e.run.tuple.edge.path (kids_of t custom (node_of e.run.tuple)) e.run.ids (course_of_run t custom e.run) is.ids) h.runs reached.moves.well.runs in omega arith

  -- how many openings are of a tuple's root
  abbrev openings_of : Tuple → ℕ
  openings_of x = weigh (λ (o : Opening). is_of o.begun.root x) h.begun

  -- the root of each issued tuple was begun
  root_begun : (x : Tuple) → ((f : Tuple → ℕ) → f x ≤ weigh f all) → 1 ≤ openings_of x
  root_begun x stands = cases (openings_of x) refl
    where
      cases : (n : ℕ) → openings_of x ≡ n → 1 ≤ n
      cases (suc n) is = omega arith
      cases zero is =
          let here : is_of x.root x ≡ 1 = rw (root_itself x.root x.root refl) refl in
          let s = stands (is_of x.root) in
          let l = few t custom h b reached (rows_in h.begun) (rows_are_found t custom h b reached) valid x.root in
          let r : node_count t custom (rows_in h.begun x.root) ≡ 0 = ap (node_count t custom) (rows_none x.root h.begun is) ∙ no_nodes t custom in absurd (omega arith)

  all_begun : length all ≤ weigh (λ (o : Opening). weigh (is_of o.begun.root) all) h.begun
  all_begun =
      let n = weigh-ones all in
      let l = weigh-le_each (λ (x : Tuple). 1) openings_of (λ (x : Tuple). (f : Tuple → ℕ) → f x ≤ weigh f all) root_begun all (each-weighs all) in
      let s = weigh-swap (λ (o : Opening) (x : Tuple). is_of o.begun.root x) h.begun all in omega arith

  module _ (most : ℕ) (few_nodes : AllByRecursion (λ (o : Opening). node_count t custom o.begun.rows ≤ most) h.begun) where
    few_all : length all ≤ length h.begun * most
    few_all =
        let a = all_begun in
        let l = weigh-le_each (λ (o : Opening). weigh (is_of o.begun.root) all) (λ (o : Opening). most) (λ (o : Opening). (o.begun.rows ≡ rows_in h.begun o.begun.root) × (node_count t custom o.begun.rows ≤ most)) one h.begun
        (each-both (λ (o : Opening). o.begun.rows ≡ rows_in h.begun o.begun.root) (λ (o : Opening). node_count t custom o.begun.rows ≤ most) h.begun (rows_are_found t custom h b reached) few_nodes) in
        let c = weigh-const most h.begun in omega arith
      where
        one : (o : Opening) → (o.begun.rows ≡ rows_in h.begun o.begun.root) × (node_count t custom o.begun.rows ≤ most) → weigh (is_of o.begun.root) all ≤ most
        one o both = let l = few t custom h b reached (rows_in h.begun) (rows_are_found t custom h b reached) valid o.begun.root in let e = ap (node_count t custom) both.0 in let m = both.1 in omega arith

    pub few_words : (s count : ℕ) → ((j : ℕ) → b.given s j ≡ before count j) → count ≤ started s h + length h.begun * most
    few_words s count given =
        let k = sum-before count count in
        let g = sum-same (λ j. drawn_in s j h) (before count) count (λ j below. let d = reached.moves.draws s j in let e = given j in omega arith) in
        let x = sum-add (λ j. weigh (start_spans s j) h.starts) (λ j. weigh (opening_spans s j) h.begun + weigh (execution_spans s j) h.runs) count in
        let y = sum-add (λ j. weigh (opening_spans s j) h.begun) (λ j. weigh (execution_spans s j) h.runs) count in
        let u = sum-weigh (λ j (z : Start). start_spans s j z) count h.starts in
        let v = sum-weigh (λ j (o : Opening). opening_spans s j o) count h.begun in
        let w = sum-weigh (λ j (e : Execution). execution_spans s j e) count h.runs in
        let p = weigh-le (λ (z : Start). sum_below (λ j. start_spans s j z) count) (λ (z : Start). cond (s == z.source) z.count 0) (λ z. sum-span z.source z.at z.count s count) h.starts in
        let q = weigh-le (λ (o : Opening). sum_below (λ j. opening_spans s j o) count) (λ (o : Opening). length o.begun.ids)
        (λ o. let a = sum-span o.begun.source o.begun.at (length o.begun.ids) s count in let c = cond-le (s == o.begun.source) (length o.begun.ids) in omega arith) h.begun in
        let r = weigh-le (λ (e : Execution). sum_below (λ j. execution_spans s j e) count) (λ (e : Execution). length e.run.ids)
        (λ e. let a = sum-span e.run.task e.run.at (length e.run.ids) s count in let c = cond-le (s == e.run.task) (length e.run.ids) in omega arith) h.runs in
        let i = ids_weight in
        let f = few_all in omega arith
