-- Emitted tuples go to tasks of their components.
use Rattle.std.proofs.Common.{◌≡◌, ℕ, zero, suc, ◌+◌, ◌-◌, ◌<◌, ◌≤◌, nat_lt, true, false, cond, List, [], ◌∷◌, ◌++◌, length, map, replicate, take, sum, sum_by, All, Some, IfSome, slice_get, refl, sym, ap, subst, ◌∙◌, arith}
use Rattle.std.specs.List.{flat_map, AllZip, AllByRecursion}
use Rattle.std.specs.Option.{option_map_or}
use Rattle.std.proofs.lemmas.Bool.Decides.{nat_tests}
use Rattle.std.proofs.lemmas.List.Elements.{recursion_from_All}
use Rattle.std.proofs.lemmas.List.Sums.{sum_by-cons}
use Rattle.std.proofs.lemmas.Option.{none-some, same_Some}
use Rattle.tuple_account.specs.storm_values.declared.value.Root.{Root}
use Rattle.tuple_account.specs.storm_values.declared.value.Value.{Value}
use Rattle.tuple_account.specs.topology_plan.declared.parts.Component.{Component}
use Rattle.tuple_account.specs.topology_plan.declared.parts.Origin.{Origin}
use Rattle.tuple_account.specs.topology_plan.declared.parts.Sub.{Sub}
use Rattle.tuple_account.specs.topology_plan.Topology.{Topology, subs_of, tasks_of, component_from, component_of, copies_of}
use Rattle.tuple_account.specs.topology_plan.Valid.{IsValid, IsTarget}
use Rattle.tuple_account.specs.topology_plan.Wired.{IsWired, IsComponent}
use Rattle.groupings.specs.declared.lane.Lane.{Lane}
use Rattle.groupings.specs.Allowed.{IsLane, IsAllowed, told}
use Rattle.groupings.specs.Routing.{first_task_of, moved, targets}
use Rattle.groupings.proofs.Choices.{targets_allowed}
use Rattle.tuple_account.specs.tree_model.Trees.{Node, kids, kids_by, copies_at}
use Rattle.tuple_account.specs.Issued.{tuples_from}
use Rattle.tuple_account.specs.Histories.{IsTaskOf, GoTo}
use Rattle.output_collector.specs.Outlets.{IsLaneOf, AreLanesOf, tasks_for_row, tasks_for}
use Rattle.output_collector.proofs.Lanes.{length-told, AreLanesOf-moved, All-moved}

-- ---- the component of a task

abbrev first_of : ℕ → List Component → ℕ
first_of c components = sum (take c (map (λ (component : Component). component.tasks) components))

first_of-more : (first : Component) (components : List Component) (c : ℕ) → first_of (suc c) (first ∷ components) ≡ first.tasks + first_of c components
first_of-more first components c = sum_by-cons (λ n. n) first.tasks (take c (map (λ (component : Component). component.tasks) components))

found_from : (n c k : ℕ) (components : List Component) (component : Component) → slice_get components c ≡ Some component → k < component.tasks
    → component_from n (first_of c components + k) components ≡ n + c
found_from n c k [] component there below = absurd (none-some component there)
found_from n zero k (first ∷ components) component there below =
    let same = ap (λ (c : Component). c.tasks) (same_Some first component there) in
    let passes : nat_lt (0 + k) first.tasks ≡ true = grind (arith, nat_tests) in
    let e : n ≡ n + 0 = omega arith in
    ap (λ b. cond b n (component_from (n + 1) (0 + k - first.tasks) components)) passes ∙ e
found_from n (suc c) k (first ∷ components) component there below =
    let more = first_of-more first components c in
    let left : first_of (suc c) (first ∷ components) + k - first.tasks ≡ first_of c components + k = omega arith in
    let fails : nat_lt (first_of (suc c) (first ∷ components) + k) first.tasks ≡ false = grind (arith, nat_tests) in
    let e : n + 1 + c ≡ n + suc c = omega arith in
    ap (λ b. cond b n (component_from (n + 1) (first_of (suc c) (first ∷ components) + k - first.tasks) components)) fails
    ∙ ap (λ task. component_from (n + 1) task components) left ∙ found_from (n + 1) c k components component there below ∙ e

tasks_up_to : (components : List Component) (c : ℕ) (component : Component) → slice_get components c ≡ Some component
    → first_of c components + component.tasks ≤ sum_by (λ (other : Component). other.tasks) components
tasks_up_to [] c component there = absurd (none-some component there)
tasks_up_to (first ∷ components) zero component there =
    let same = ap (λ (c : Component). c.tasks) (same_Some first component there) in omega (arith, sum_by-cons (λ (other : Component). other.tasks) first components)
tasks_up_to (first ∷ components) (suc c) component there =
    omega (arith, tasks_up_to components c component there, sum_by-cons (λ (other : Component). other.tasks) first components, first_of-more first components c)

component_at : (components : List Component) (c : ℕ) → c < length components → (component : Component) × (slice_get components c ≡ Some component)
component_at [] c within = absurd (omega arith)
component_at (component ∷ components) zero within = (component, refl)
component_at (component ∷ components) (suc c) within = component_at components c (omega arith)

-- the tasks of a component, counted from its first
task_of : (t : Topology) (c k : ℕ) → IsWired t → c < length t.components → k < tasks_of t c → IsTaskOf t c (first_task_of t c + k)
task_of t c k wired within below =
    let found = component_at t.components c within in
    let component = found.0 in
    let there : slice_get t.components c ≡ Some component = found.1 in
    let is : IsComponent t c component = subst (λ o. IfSome o (IsComponent t c)) there (wired.components c) in
    let tasks : tasks_of t c ≡ component.tasks = ap (λ o. option_map_or (λ (d : Component). d.tasks) o 0) there in
    let first : first_task_of t c ≡ first_of c t.components = ap (λ o. option_map_or (λ (d : Component). d.first_task) o 0) there ∙ is.first_task in
    let inside : k < component.tasks = omega arith in
    record {
      there = omega (arith, tasks_up_to t.components c component there);
      belongs = ap (λ n. component_of t (n + k)) first ∙ found_from 0 c k t.components component there inside ∙ (let e : 0 + c ≡ c = omega arith in e);
    }

-- ---- nodes and the tasks that they go to

abbrev Suits : Topology → List Node → List ℕ → Type 0
Suits t nodes tasks = AllZip (λ (node : Node) task. IsTaskOf t node.component task) nodes tasks

suits-append : (t : Topology) (ns ms : List Node) (ts us : List ℕ) → Suits t ns ts → Suits t ms us → Suits t (ns ++ ms) (ts ++ us)
suits-append t [] ms [] us first second = second
suits-append t [] ms (x ∷ ts) us first second = absurd first
suits-append t (n ∷ ns) ms [] us first second = absurd first
suits-append t (n ∷ ns) ms (x ∷ ts) us first second = (first.0, suits-append t ns ms ts us first.1 second)

suits-replicate : (t : Topology) (n : ℕ) (node : Node) (tasks : List ℕ) → length tasks ≡ n → AllByRecursion (IsTaskOf t node.component) tasks → Suits t (replicate n node) tasks
suits-replicate t zero node [] same all = tt
suits-replicate t zero node (task ∷ tasks) same all = absurd (omega arith)
suits-replicate t (suc n) node [] same all = absurd (omega arith)
suits-replicate t (suc n) node (task ∷ tasks) same all = (all.0, suits-replicate t n node tasks (omega arith) all.1)

allowed_tasks : (t : Topology) (sub : Sub) (lane : Lane) (row : List Value) → IsWired t → IsTarget t sub → IsLaneOf t sub lane → (tasks : List ℕ)
    → AllByRecursion (IsAllowed lane row) tasks → AllByRecursion (IsTaskOf t sub.to) tasks
allowed_tasks t sub lane row wired there is [] all = tt
allowed_tasks t sub lane row wired there is (task ∷ tasks) all =
    let below : all.0.0 < tasks_of t sub.to = omega (arith, is.tasks, all.0.2) in
    let named : task ≡ first_task_of t sub.to + all.0.0 = all.0.1 ∙ ap (λ n. n + all.0.0) is.first in
    (subst (IsTaskOf t sub.to) (sym named) (task_of t sub.to all.0.0 wired there below), allowed_tasks t sub lane row wired there is tasks all.1)

suits_along : (t : Topology) (row : List Value) (subs : List Sub) (lanes : List Lane) → IsWired t → AllByRecursion (IsTarget t) subs → AllZip (IsLaneOf t) subs lanes → AllByRecursion IsLane lanes
    → Suits t (flat_map (copies_at t row) subs) (tasks_for_row lanes row)
suits_along t row [] [] wired there are each = tt
suits_along t row [] (lane ∷ lanes) wired there are each = absurd are
suits_along t row (sub ∷ subs) [] wired there are each = absurd are
suits_along t row (sub ∷ subs) (lane ∷ lanes) wired there are each =
    let allowed = recursion_from_All (IsAllowed lane row) (told (targets lane row)) (targets_allowed lane row each.0) in
    let here = suits-replicate t (copies_of t sub) (record { component = sub.to; row = row }) (told (targets lane row)) (length-told t sub lane row are.0)
    (allowed_tasks t sub lane row wired there.0 are.0 (told (targets lane row)) allowed) in
    suits-append t (copies_at t row sub) (flat_map (copies_at t row) subs) (told (targets lane row)) (tasks_for_row lanes row) here
    (suits_along t row subs lanes wired there.1 are.1 each.1)

suits_for : (t : Topology) (from : Origin) (lanes : List Lane) (rows : List (List Value)) → IsValid t → IsWired t → AreLanesOf t from lanes → All IsLane lanes → Suits t (kids t from rows) (tasks_for lanes rows)
suits_for t from lanes [] valid wired are each = tt
suits_for t from lanes (row ∷ rows) valid wired are each =
    suits-append t (kids_by t from row) (kids t from rows) (tasks_for_row lanes row) (tasks_for (map moved lanes) rows)
    (suits_along t row (subs_of t from) lanes wired (recursion_from_All (IsTarget t) (subs_of t from) (valid.targets from)) are (recursion_from_All IsLane lanes each))
    (suits_for t from (map moved lanes) rows valid wired (AreLanesOf-moved t from lanes are) (All-moved lanes each))

go_from : (t : Topology) (root : Root) (path : List ℕ) (j : ℕ) (nodes : List Node) (ids tasks : List ℕ) → length ids ≡ length nodes → Suits t nodes tasks → GoTo t (tuples_from root path j nodes ids) tasks
go_from t root path j [] [] tasks enough suits = tt
go_from t root path j [] (id ∷ ids) tasks enough suits = absurd (omega arith)
go_from t root path j (node ∷ nodes) [] tasks enough suits = absurd (omega arith)
go_from t root path j (node ∷ nodes) (id ∷ ids) [] enough suits = absurd suits
go_from t root path j (node ∷ nodes) (id ∷ ids) (task ∷ tasks) enough suits = (suits.0, go_from t root path (suc j) nodes ids tasks (omega arith) suits.1)

pub go_to : (t : Topology) (from : Origin) (lanes : List Lane) → IsValid t → IsWired t → AreLanesOf t from lanes → All IsLane lanes
    → (root : Root) (path : List ℕ) (rows : List (List Value)) (ids : List ℕ) → length ids ≡ length (kids t from rows)
    → GoTo t (tuples_from root path 0 (kids t from rows) ids) (tasks_for lanes rows)
go_to t from lanes valid wired are each root path rows ids enough = go_from t root path 0 (kids t from rows) ids (tasks_for lanes rows) enough (suits_for t from lanes rows valid wired are each)
