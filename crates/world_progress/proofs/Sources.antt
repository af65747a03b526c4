-- Each record has a node at least, since some component takes the rows of the spout.
use Rattle.std.proofs.Common.{◌≡◌, ◌≢◌, ◌<◌, ◌≤◌, ℕ, zero, suc, ◌==◌, Bool, true, false, cond, List, [], ◌∷◌, ◌++◌, length, get_or, map, filter, flat_map, slice_get, Option, Some, refl, ap, ap₂, subst, arith, eqb-true}
use Rattle.std.specs.Prelude.{IfSome}
use Rattle.std.specs.List.{AllByRecursion, range_with_len}
use Rattle.std.specs.Option.{option_map_or}
use Rattle.std.proofs.lemmas.List.{length-append, length-replicate}
use Rattle.std.proofs.lemmas.List.Elements.{recursion_from_All}
use Rattle.std.proofs.lemmas.Option.{slice_get-get_or}
use Rattle.event_worlds.specs.bolt_ops.RowOp.{Custom}
use Rattle.event_worlds.specs.storm_values.declared.value.Value.{Value}
use Rattle.event_worlds.specs.topology_plan.declared.parts.Component.{Component}
use Rattle.event_worlds.specs.topology_plan.declared.parts.Grouping.{Grouping}
use Rattle.event_worlds.specs.topology_plan.declared.parts.Grouping.TheVariants as grouping
use Rattle.event_worlds.specs.topology_plan.declared.parts.Origin.{Origin}
use Rattle.event_worlds.specs.topology_plan.declared.parts.Origin.TheVariants as origin
use Rattle.event_worlds.specs.topology_plan.declared.parts.Sub.{Sub}
use Rattle.event_worlds.specs.topology_plan.Topology.{Topology, copies_by, copies_of, subs_of, tasks_of}
use Rattle.event_worlds.specs.topology_plan.Valid.{IsTarget, IsValid}
use Rattle.event_worlds.specs.topology_plan.Wired.{IsComponent, IsWired}
use Rattle.event_worlds.specs.tree_model.Trees.{Node, copies_at, kids, kids_by, node_count, nodes_from, nodes_of}
use Rattle.event_worlds.proofs.counted_items.Each.{each-weaker}
use Rattle.world_progress.proofs.Lists.{range-below}

-- ---- the spout has a subscription

module _ (t : Topology) where
  abbrev sources_by : ℕ → Origin → List (Origin × Sub)
  sources_by c from = map {B = Origin × Sub} (λ (sub : Sub). (from, sub)) (filter (λ (sub : Sub). sub.to == c) (subs_of t from))

  none_from : (c : ℕ) (from : Origin) (subs : List Sub) → AllByRecursion (λ (sub : Sub). sub.to ≡ c → ⊥) subs
      → map {B = Origin × Sub} (λ (sub : Sub). (from, sub)) (filter (λ (sub : Sub). sub.to == c) subs) ≡ []
  none_from c from [] none = refl
  none_from c from (sub ∷ subs) none = by (sub.to == c) refl (none_from c from subs none.1)
    where
      by : (b : Bool) → (sub.to == c) ≡ b → map {B = Origin × Sub} (λ (s : Sub). (from, s)) (filter (λ (s : Sub). s.to == c) subs) ≡ []
          → map {B = Origin × Sub} (λ (s : Sub). (from, s)) (cond b (sub ∷ filter (λ (s : Sub). s.to == c) subs) (filter (λ (s : Sub). s.to == c) subs)) ≡ []
      by true same rest = absurd (none.0 (eqb-true sub.to c same))
      by false other rest = rest

  none_in : (c : ℕ) (ns : List ℕ) → AllByRecursion (λ (n : ℕ). AllByRecursion (λ (sub : Sub). sub.to ≡ c → ⊥) (subs_of t (origin.Component n))) ns
      → flat_map (sources_by c) (map origin.Component ns) ≡ []
  none_in c [] all = refl
  none_in c (n ∷ ns) all =
      ap₂ (λ (xs ys : List (Origin × Sub)). xs ++ ys) (none_from c (origin.Component n) (subs_of t (origin.Component n)) all.0) (none_in c ns all.1)

  module _ (valid : IsValid t) (wired : IsWired t) where
    component_there : (c : ℕ) → c < length t.components → (component : Component) × (slice_get t.components c ≡ Some component) × IsComponent t c component
    component_there c there = by t.components refl
      where
        by : (cs : List Component) → t.components ≡ cs → (component : Component) × (slice_get t.components c ≡ Some component) × IsComponent t c component
        by [] same = absurd (let e = ap (λ (xs : List Component). length xs) same in omega arith)
        by (x ∷ xs) same =
            let at = slice_get-get_or t.components c x there in
            (get_or t.components c x, at, subst (λ (o : Option Component). IfSome o (IsComponent t c)) at (wired.components c))

    -- ranks grow from source to component, so that some component has no component as its source
    never : (m c : ℕ) → t.spout_subs ≡ [] → valid.ranked.rank c < m → c < length t.components → ⊥
    never zero c none small there = omega arith
    never (suc m) c none small there =
        let at = component_there c there in
        at.2.some_source
        (ap₂ (λ (xs ys : List (Origin × Sub)). xs ++ ys)
        (ap (λ (subs : List Sub). map {B = Origin × Sub} (λ (sub : Sub). (origin.Spout, sub)) (filter (λ (sub : Sub). sub.to == c) subs)) none)
        (none_in c (range_with_len 0 (length t.components))
        (each-weaker (λ (n : ℕ). n < length t.components)
        (λ (n : ℕ). AllByRecursion (λ (sub : Sub). sub.to ≡ c → ⊥) (subs_of t (origin.Component n)))
        (λ n below.
        each-weaker (λ (sub : Sub). valid.ranked.rank n < valid.ranked.rank sub.to) (λ (sub : Sub). sub.to ≡ c → ⊥)
        (λ sub grows same. never m n none (let e = ap valid.ranked.rank same in omega arith) below) (subs_of t (origin.Component n))
        (recursion_from_All (λ (sub : Sub). valid.ranked.rank n < valid.ranked.rank sub.to) (subs_of t (origin.Component n)) (valid.ranked.grows n)))
        (range_with_len 0 (length t.components)) (range-below (length t.components) 0 (length t.components) (omega arith)))))

    spout_feeds : t.spout_subs ≢ []
    spout_feeds none = never (suc (valid.ranked.rank 0)) 0 none (omega arith) (let some = valid.components.0 in omega arith)

    -- ---- nodes

    copies_some : (sub : Sub) → sub.to < length t.components → 1 ≤ copies_of t sub
    copies_some sub there = by sub.grouping
      where
        some_tasks : 1 ≤ tasks_of t sub.to
        some_tasks =
            let at = component_there sub.to there in
            let some = at.2.tasks.0 in
            let e = ap (λ (o : Option Component). option_map_or (λ (x : Component). x.tasks) o 0) at.1 in omega arith

        by : (g : Grouping) → 1 ≤ copies_by g (tasks_of t sub.to)
        by grouping.Shuffle = omega arith
        by (grouping.Fields key) = omega arith
        by grouping.All = some_tasks
        by grouping.Global = omega arith
        by (grouping.Direct field) = omega arith

    row_some : (row : List Value) → 1 ≤ length (kids_by t origin.Spout row)
    row_some row = by t.spout_subs spout_feeds (recursion_from_All (IsTarget t) t.spout_subs (valid.targets origin.Spout))
      where
        by : (subs : List Sub) → subs ≢ [] → AllByRecursion (IsTarget t) subs → 1 ≤ length (flat_map (copies_at t row) subs)
        by [] some targets = absurd (some refl)
        by (sub ∷ subs) some targets =
            let l = length-append (copies_at t row sub) (flat_map (copies_at t row) subs) in
            let node : Node = record { component = sub.to; row = row } in
            let r = length-replicate (copies_of t sub) node in
            let c = copies_some sub targets.0 in omega arith

    rows_some : (rows : List (List Value)) → length rows ≤ length (kids t origin.Spout rows)
    rows_some [] = omega arith
    rows_some (row ∷ rows) =
        let l = length-append (kids_by t origin.Spout row) (kids t origin.Spout rows) in
        let here = row_some row in
        let rest = rows_some rows in omega arith

    below_some : (custom : Custom) (levels : ℕ) (nodes : List Node) → length nodes ≤ length (flat_map (nodes_from (suc levels) t custom) nodes)
    below_some custom levels [] = omega arith
    below_some custom levels (node ∷ nodes) =
        let l = length-append (nodes_from (suc levels) t custom node) (flat_map (nodes_from (suc levels) t custom) nodes) in
        let rest = below_some custom levels nodes in omega arith

    -- there are no fewer nodes than records
    pub records-few : (custom : Custom) (rows : List (List Value)) → length rows ≤ node_count t custom rows
    unfolding nodes_of
    records-few custom rows = by (length t.components) valid.components.0
      where
        by : (n : ℕ) → 1 ≤ n → length rows ≤ length (flat_map (nodes_from n t custom) (kids t origin.Spout rows))
        by zero some = absurd (omega arith)
        by (suc n) some = let a = rows_some rows in let b = below_some custom n (kids t origin.Spout rows) in omega arith
