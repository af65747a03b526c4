-- What every plan keeps, as its calls ensure it.
use Rattle.std.proofs.Common.{◌≡◌, ℕ, zero, suc, ◌+◌, ◌<◌, ◌≤◌, ◌∙◌, length, get_or, IfSome, List, [], ◌∷◌, map, take, sum, sum_by, slice_get, Some, All, ap, sym, subst, arith}
use Rattle.std.proofs.lemmas.List.Sums.{sum_by-cons}
use Rattle.std.proofs.lemmas.Option.{none-some, same_Some, slice_get-get_or}
use Rattle.topology_plan.specs.declared.parts.Component.{Component}
use Rattle.topology_plan.specs.declared.parts.Origin.{Origin}
use Rattle.topology_plan.specs.declared.parts.Sub.{Sub}
use Rattle.topology_plan.specs.Topology.{Topology, subs_of, tasks_in_all}
use Rattle.topology_plan.specs.Valid.{IsTarget, IsValid}
use Rattle.topology_plan.specs.Wired.{IsComponent, IsWired}

-- the subscriptions of a source name components that are there
pub targets_of : (t s : Topology) (from : Origin) (subs : List Sub) → IsValid t → t ≡ s → subs ≡ subs_of s from → All (IsTarget s) subs
targets_of t s from subs valid same is =
    subst (All (IsTarget s)) (sym is) (subst (λ (u : Topology). All (IsTarget u) (subs_of u from)) same (valid.targets from))

tasks_up_to : (components : List Component) (c : ℕ) (component : Component) → slice_get components c ≡ Some component
    → sum (take c (map (λ (other : Component). other.tasks) components)) + component.tasks ≤ sum_by (λ (other : Component). other.tasks) components
tasks_up_to [] c component there = absurd (none-some component there)
tasks_up_to (first ∷ components) zero component there =
    let same = ap (λ (c : Component). c.tasks) (same_Some first component there) in omega (arith, sum_by-cons (λ (other : Component). other.tasks) first components)
tasks_up_to (first ∷ components) (suc c) component there =
    let numbers = take c (map (λ (other : Component). other.tasks) components) in
    let front : sum (first.tasks ∷ numbers) ≡ first.tasks + sum numbers = sum_by-cons (λ n. n) first.tasks numbers in
    omega (arith, tasks_up_to components c component there, sum_by-cons (λ (other : Component). other.tasks) first components, front)

last_task : (t : Topology) (c : ℕ) (component : Component) → slice_get t.components c ≡ Some component → IsComponent t c component → component.first_task + component.tasks ≤ tasks_in_all t
last_task t c component there is = omega (arith, tasks_up_to t.components c component there, is.first_task)

-- a component's tasks are among those of all
pub last_task_of : (t s : Topology) (c : ℕ) (component : Component) → IsWired t → t ≡ s → c < length s.components → component ≡ get_or t.components c component → component.first_task + component.tasks ≤ tasks_in_all s
last_task_of t s c component wired same within is =
    let inside : c < length t.components = rw same within in
    let there : slice_get t.components c ≡ Some component = slice_get-get_or t.components c component inside ∙ ap Some (sym is) in
    rw (← same) (last_task t c component there (subst (λ o. IfSome o (IsComponent t c)) there (wired.components c)))
