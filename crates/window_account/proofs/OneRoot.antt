-- What was begun and executed of one root is an account of its own, and where the root's attempt is good its messages cover its tree.
use Rattle.std.proofs.Common.{◌≡◌, ◌≢◌, ℕ, suc, ◌+◌, ◌≤◌, Bool, true, false, cond, List, [], ◌∷◌, ◌++◌, map, filter, Some, refl, sym, ap, subst, ◌∙◌, arith}
use Rattle.std.specs.List.{AllByRecursion, flat_map}
use Rattle.tree_model.proofs.counted_items.Each.{each-both, each-weaker}
use Rattle.tree_model.proofs.counted_items.Weighing.{weigh-append, weigh-map, weigh-flat_map, weigh-same}
use Rattle.tree_model.proofs.tuple_tickets.Roots.{same_root}
use Rattle.tree_model.specs.bolt_ops.RowOp.{Custom}
use Rattle.tree_model.specs.counted_items.Weights.{weigh, Within}
use Rattle.tree_model.specs.storm_values.declared.value.Root.{Root}
use Rattle.tree_model.specs.storm_values.declared.value.Value.{Value}
use Rattle.tree_model.specs.topology_plan.declared.parts.Origin.TheVariants as origin
use Rattle.tree_model.specs.topology_plan.Topology.{Topology}
use Rattle.tree_model.specs.tuple_tickets.Roots.{root_eq}
use Rattle.tree_model.specs.tuple_tickets.Tickets.{made_by}
use Rattle.tree_model.specs.tuple_tickets.Trees.{Course, goes, fails, mute}
use Rattle.tree_model.specs.declared.messages.AckMsg.{AckMsg}
use Rattle.tree_model.specs.declared.messages.AckMsg.TheVariants as msg
use Rattle.tree_model.specs.declared.messages.Tuple.{Tuple}
use Rattle.tree_model.specs.Courses.{course_at}
use Rattle.tree_model.specs.Lists.{root_of, is_failed, AreTrueOf, Covers}
use Rattle.tree_model.specs.Trees.{Node, kids, kids_of, node_at}
use Rattle.tuple_account.specs.Accounts.{Account, is_begun, issued, issued_notes, notes_about, IsBegun, IsRun, IsAccount, IsNode}
use Rattle.tuple_account.specs.Issued.{Begun, Run, node_of, tuples_from, first_tuples, init_of, course_of_run, children_of, notes_of}
use Rattle.tuple_account.proofs.Sound.{are_true, used_nodes, covers}
use Rattle.tuple_account.proofs.Tickets.{weigh-notes_about}
use Rattle.window_account.proofs.Weigh.{weigh-filter, weigh-filter_le, each-filter, each-passed}

-- a weight that tuples of other roots do not have
abbrev of_root : Root → (Tuple → ℕ) → Tuple → ℕ
of_root r f tuple = cond (root_eq tuple.root r) (f tuple) 0

from_one : (r root : Root) (f : Tuple → ℕ) (path : List ℕ) (j : ℕ) (nodes : List Node) (ids : List ℕ) → weigh (of_root r f) (tuples_from root path j nodes ids) ≡ cond (root_eq root r) (weigh f (tuples_from root path j nodes ids)) 0
from_one r root f path j [] ids = by (root_eq root r)
  where
    by : (b : Bool) → ◌≡◌ {A = ℕ} 0 (cond b 0 0)
    by true = refl
    by false = refl
from_one r root f path j (node ∷ nodes) [] = by (root_eq root r)
  where
    by : (b : Bool) → ◌≡◌ {A = ℕ} 0 (cond b 0 0)
    by true = refl
    by false = refl
from_one r root f path j (node ∷ nodes) (id ∷ ids) =
    by (root_eq root r) (f (record { root = root; edge = record { path = path ++ j ∷ []; id = id }; component = node.component; row = node.row })) _ _ (from_one r root f path (suc j) nodes ids)
  where
    by : (b : Bool) (first made all : ℕ) → made ≡ cond b all 0 → cond b first 0 + made ≡ cond b (first + all) 0
    by true first made all later = ap (λ (n : ℕ). first + n) later
    by false first made all later = omega (arith, later)

made_of_one : (r root : Root) (f : Tuple → ℕ) (tuples : List Tuple) (c : Course) → weigh (of_root r f) tuples ≡ cond (root_eq root r) (weigh f tuples) 0 → weigh (of_root r f) (made_by c tuples) ≡ cond (root_eq root r) (weigh f (made_by c tuples)) 0
made_of_one r root f tuples goes is = is
made_of_one r root f tuples fails is = by (root_eq root r)
  where
    by : (b : Bool) → ◌≡◌ {A = ℕ} 0 (cond b 0 0)
    by true = refl
    by false = refl
made_of_one r root f tuples mute is = by (root_eq root r)
  where
    by : (b : Bool) → ◌≡◌ {A = ℕ} 0 (cond b 0 0)
    by true = refl
    by false = refl

module _ (t : Topology) (custom : Custom) (rows_of : Root → List (List Value)) (a : Account) (account : IsAccount t custom rows_of a) (none_waits : (f : Tuple → ℕ) → a.waiting f ≡ 0) (r : Root) where
  begun_here : Begun → Bool
  begun_here b = root_eq b.root r

  run_here : Run → Bool
  run_here u = root_eq u.tuple.root r

  abbrev one : Account
  one = record { begun = filter (λ (b : Begun). root_eq b.root r) a.begun; runs = filter (λ (u : Run). root_eq u.tuple.root r) a.runs; waiting = λ f. 0 }

  issued_one : (f : Tuple → ℕ) → weigh (of_root r f) (issued t custom a) ≡ weigh f (issued t custom one)
  issued_one f =
      let cut = weigh-append (of_root r f) (flat_map (first_tuples t) a.begun) (flat_map (children_of t custom) a.runs) in
      let firsts = weigh-flat_map (of_root r f) (first_tuples t) a.begun in
      let children = weigh-flat_map (of_root r f) (children_of t custom) a.runs in
      let each_first = weigh-same (λ (b : Begun). weigh (of_root r f) (first_tuples t b)) (λ (b : Begun). cond (root_eq b.root r) (weigh f (first_tuples t b)) 0) (λ b. from_one r b.root f [] 0 (kids t origin.Spout b.rows) b.ids) a.begun in
      let each_child = weigh-same (λ (u : Run). weigh (of_root r f) (children_of t custom u)) (λ (u : Run). cond (root_eq u.tuple.root r) (weigh f (children_of t custom u)) 0)
      (λ u. made_of_one r u.tuple.root f (tuples_from u.tuple.root u.tuple.edge.path 0 (kids_of t custom (node_of u.tuple)) u.ids) (course_of_run t custom u) (from_one r u.tuple.root f u.tuple.edge.path 0 (kids_of t custom (node_of u.tuple)) u.ids)) a.runs in
      let kept_first = weigh-filter (λ (b : Begun). root_eq b.root r) (λ b. weigh f (first_tuples t b)) a.begun in
      let kept_child = weigh-filter (λ (u : Run). root_eq u.tuple.root r) (λ u. weigh f (children_of t custom u)) a.runs in
      let firsts_one = weigh-flat_map f (first_tuples t) one.begun in
      let children_one = weigh-flat_map f (children_of t custom) one.runs in
      let cut_one = weigh-append f (flat_map (first_tuples t) one.begun) (flat_map (children_of t custom) one.runs) in
      omega (arith, cut, firsts, children, each_first, each_child, kept_first, kept_child, firsts_one, children_one, cut_one)

  one_is : IsAccount t custom rows_of one
  one_is = record {
    balanced = λ f.
        let all = account.balanced (of_root r f) in
        let none = none_waits (of_root r f) in
        let kept = weigh-filter (λ (u : Run). root_eq u.tuple.root r) (λ u. f u.tuple) a.runs in
        let made = issued_one f in
        omega (arith, all, none, kept, made);
    distinct = λ root. let all = account.distinct root in let few = weigh-filter_le (λ (b : Begun). root_eq b.root r) (is_begun root) a.begun in omega (arith, all, few);
    begun_well = each-filter (λ (b : Begun). root_eq b.root r) (IsBegun t custom rows_of) a.begun account.begun_well;
    runs_well = each-filter (λ (u : Run). root_eq u.tuple.root r) (IsRun t custom) a.runs account.runs_well;
  }

  begun_one : 1 ≤ weigh (is_begun r) a.begun → 1 ≤ weigh (is_begun r) one.begun
  begun_one some =
      let kept = weigh-filter (λ (b : Begun). root_eq b.root r) (is_begun r) a.begun in
      let same = weigh-same (is_begun r) (λ (b : Begun). cond (root_eq b.root r) (is_begun r b) 0) (λ b. by (root_eq b.root r)) a.begun in
      omega (arith, some, kept, same)
    where
      by : (b : Bool) → ◌≡◌ {A = ℕ} (cond b 1 0) (cond b (cond b 1 0) 0)
      by true = refl
      by false = refl

  notes_one : Within (notes_about r (issued_notes t custom one)) (notes_about r (issued_notes t custom a))
  notes_one h =
      let w = λ (m : AckMsg). cond (root_eq (root_of m) r) (h m) 0 in
      let whole = weigh-notes_about r h (issued_notes t custom a) in
      let kept = weigh-notes_about r h (issued_notes t custom one) in
      let cut = weigh-append w (map (init_of t) a.begun) (flat_map (notes_of t custom) a.runs) in
      let cut_one = weigh-append w (map (init_of t) one.begun) (flat_map (notes_of t custom) one.runs) in
      let inits = weigh-map w (init_of t) a.begun in
      let inits_one = weigh-map w (init_of t) one.begun in
      let others = weigh-flat_map w (notes_of t custom) a.runs in
      let others_one = weigh-flat_map w (notes_of t custom) one.runs in
      let few = weigh-filter_le (λ (b : Begun). root_eq b.root r) (λ b. w (init_of t b)) a.begun in
      let fewer = weigh-filter_le (λ (u : Run). root_eq u.tuple.root r) (λ u. weigh w (notes_of t custom u)) a.runs in
      omega (arith, whole, kept, cut, cut_one, inits, inits_one, others, others_one, few, fewer)

  -- ---- a good attempt

  module _ (good : (path : List ℕ) (node : Node) → node_at t custom (rows_of r) path ≡ Some node → course_at t custom r.attempt node ≡ goes) where
    goes_apart : (c d : Course) → c ≡ goes → c ≡ d → d ≢ goes → ⊥
    goes_apart c d first second differ = differ (sym second ∙ first)

    none_mute : AllByRecursion (λ (u : Run). course_of_run t custom u ≢ mute) one.runs
    none_mute =
        each-weaker (λ (u : Run). IsNode t custom rows_of u.tuple × (root_eq u.tuple.root r ≡ true)) (λ (u : Run). course_of_run t custom u ≢ mute) speaks one.runs
        (each-both (λ (u : Run). IsNode t custom rows_of u.tuple) (λ (u : Run). root_eq u.tuple.root r ≡ true) one.runs (used_nodes t custom rows_of one one_is) (each-passed (λ (u : Run). root_eq u.tuple.root r) a.runs))
      where
        speaks : (u : Run) → IsNode t custom rows_of u.tuple × (root_eq u.tuple.root r ≡ true) → course_of_run t custom u ≢ mute
        speaks u both silent =
            let root = same_root u.tuple.root r both.1 in
            let there : node_at t custom (rows_of r) u.tuple.edge.path ≡ Some (node_of u.tuple) = subst (λ (q : Root). node_at t custom (rows_of q) u.tuple.edge.path ≡ Some (node_of u.tuple)) root both.0 in
            let here : course_at t custom u.tuple.root.attempt (node_of u.tuple) ≡ goes = ap (λ (q : Root). course_at t custom q.attempt (node_of u.tuple)) root ∙ good u.tuple.edge.path (node_of u.tuple) there in
            let bad : goes ≡ mute = sym here ∙ silent in cc

    none_failed : (list : List AckMsg) → AreTrueOf t custom (rows_of r) r list → weigh is_failed list ≡ 0
    none_failed [] all = refl
    none_failed (msg.Init m ∷ list) all = let later = none_failed list all.1 in omega (arith, later)
    none_failed (msg.Done m ∷ list) all = let later = none_failed list all.1 in omega (arith, later)
    none_failed (msg.Failed m ∷ list) all =
        let says = all.0.says_true in
        let bad : goes ≡ fails = sym (good m.path says.0 says.1) ∙ says.2 in absurd (cc)

    pub good_covers : 1 ≤ weigh (is_begun r) a.begun → Covers t custom (rows_of r) (notes_about r (issued_notes t custom a))
    good_covers some =
        let list = notes_about r (issued_notes t custom a) in
        covers t custom rows_of one one_is (λ f. refl) none_mute r list (begun_one some) notes_one
        (none_failed list (are_true t custom rows_of a account r list (λ f. omega arith)))
