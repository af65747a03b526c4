-- The lanes of a source: how many tasks they tell, and what they keep.
use Rattle.std.proofs.Common.{◌≡◌, ℕ, zero, suc, ◌+◌, ◌<◌, ◌≤◌, List, [], ◌∷◌, length, map, All, Some, slice_get, slice_set, slice_index, slice_index_or, get_or, refl, sym, ap, subst, ◌∙◌, length-append, mod-lt, arith}
use Rattle.std.specs.List.{flat_map, AllZip, AllByRecursion}
use Rattle.std.specs.List.Sorted.{IsStrictlyIncreasing}
use Rattle.std.proofs.lemmas.List.{length-map, length-replicate, get_or-map}
use Rattle.std.proofs.lemmas.List.Elements.{recursion_from_All, All-from_recursion}
use Rattle.std.proofs.lemmas.List.FromFn.{length-range_with_len}
use Rattle.std.proofs.lemmas.Option.{none-some, same_Some}
use Rattle.tuple_account.specs.storm_values.declared.value.Value.{Value}
use Rattle.tuple_account.specs.storm_values.Limits.{most_tasks_in_all}
use Rattle.tuple_account.specs.topology_plan.declared.parts.Grouping.{Grouping}
use Rattle.tuple_account.specs.topology_plan.declared.parts.Grouping.TheVariants as grouping
use Rattle.tuple_account.specs.topology_plan.declared.parts.Origin.{Origin}
use Rattle.tuple_account.specs.topology_plan.declared.parts.Sub.{Sub}
use Rattle.tuple_account.specs.topology_plan.Topology.{Topology, subs_of, copies_by, copies_of}
use Rattle.tuple_account.specs.topology_plan.Valid.{IsValid, IsTarget}
use Rattle.tuple_account.specs.topology_plan.Wired.{IsWired}
use Rattle.groupings.specs.declared.lane.Lane.{Lane}
use Rattle.groupings.specs.declared.lane.Targets.{Targets}
use Rattle.groupings.specs.Allowed.{IsLane, told}
use Rattle.groupings.specs.Routing.{lanes_of, moved, targets, targets_by, turn_after}
use Rattle.tuple_account.specs.tree_model.Trees.{kids, kids_by, copies_at}
use Rattle.output_collector.specs.Outlets.{IsLaneOf, AreLanesOf, tasks_for_row, tasks_for, lanes_after}
use Rattle.output_collector.specs.Sending.{AreFew}

-- ---- how many tasks

length-told_by : (first tasks turn : ℕ) (by : Grouping) (row : List Value) → length (told (targets_by first tasks turn by row)) ≡ copies_by by tasks
length-told_by first tasks turn grouping.Shuffle row = refl
length-told_by first tasks turn (grouping.Fields key) row = refl
length-told_by first tasks turn grouping.All row = length-range_with_len first tasks
length-told_by first tasks turn grouping.Global row = refl
length-told_by first tasks turn (grouping.Direct field) row = refl

-- a lane tells a task for each copy
pub length-told : (t : Topology) (sub : Sub) (lane : Lane) (row : List Value) → IsLaneOf t sub lane → length (told (targets lane row)) ≡ copies_of t sub
length-told t sub lane row is = length-told_by lane.first lane.tasks lane.turn lane.by row ∙ (λ i. copies_by (is.by i) (is.tasks i))

length-tasks_by : (t : Topology) (row : List Value) (subs : List Sub) (lanes : List Lane) → AllZip (IsLaneOf t) subs lanes → length (tasks_for_row lanes row) ≡ length (flat_map (copies_at t row) subs)
length-tasks_by t row [] [] are = refl
length-tasks_by t row [] (lane ∷ lanes) are = absurd are
length-tasks_by t row (sub ∷ subs) [] are = absurd are
length-tasks_by t row (sub ∷ subs) (lane ∷ lanes) are =
    let later = length-tasks_by t row subs lanes are.1 in
    let many : length (copies_at t row sub) ≡ copies_of t sub = length-replicate (copies_of t sub) (record { component = sub.to; row = row }) in
    omega (arith, length-append (told (targets lane row)) (tasks_for_row lanes row), length-append (copies_at t row sub) (flat_map (copies_at t row) subs), length-told t sub lane row are.0)

pub length-tasks_for_row : (t : Topology) (from : Origin) (lanes : List Lane) (row : List Value) → AreLanesOf t from lanes → length (tasks_for_row lanes row) ≡ length (kids_by t from row)
length-tasks_for_row t from lanes row are = length-tasks_by t row (subs_of t from) lanes are

-- ---- what a lane keeps

moved_lanes : (t : Topology) (subs : List Sub) (lanes : List Lane) → AllZip (IsLaneOf t) subs lanes → AllZip (IsLaneOf t) subs (map moved lanes)
moved_lanes t [] [] are = tt
moved_lanes t [] (lane ∷ lanes) are = absurd are
moved_lanes t (sub ∷ subs) [] are = absurd are
moved_lanes t (sub ∷ subs) (lane ∷ lanes) are =
    let is = are.0 in
    (record { first = is.first; tasks = is.tasks; by = is.by }, moved_lanes t subs lanes are.1)

pub AreLanesOf-moved : (t : Topology) (from : Origin) (lanes : List Lane) → AreLanesOf t from lanes → AreLanesOf t from (map moved lanes)
AreLanesOf-moved t from lanes are = moved_lanes t (subs_of t from) lanes are

turn_after-lt : (by : Grouping) (turn tasks : ℕ) → turn < tasks → turn_after by turn tasks < tasks
turn_after-lt grouping.Shuffle turn tasks below = mod-lt (turn + 1) (omega arith)
turn_after-lt (grouping.Fields key) turn tasks below = below
turn_after-lt grouping.All turn tasks below = below
turn_after-lt grouping.Global turn tasks below = below
turn_after-lt (grouping.Direct field) turn tasks below = below

IsLane-moved : (lane : Lane) → IsLane lane → IsLane (moved lane)
IsLane-moved lane is = record { some = is.some; few = is.few; turn = turn_after-lt lane.by lane.turn lane.tasks is.turn }

each-moved : (lanes : List Lane) → AllByRecursion IsLane lanes → AllByRecursion IsLane (map moved lanes)
each-moved [] all = tt
each-moved (lane ∷ lanes) all = (IsLane-moved lane all.0, each-moved lanes all.1)

pub All-moved : (lanes : List Lane) → All IsLane lanes → All IsLane (map moved lanes)
All-moved lanes all = All-from_recursion IsLane (map moved lanes) (each-moved lanes (recursion_from_All IsLane lanes all))

-- ---- over rows

pub length-tasks_for : (t : Topology) (from : Origin) (lanes : List Lane) (rows : List (List Value)) → AreLanesOf t from lanes → length (tasks_for lanes rows) ≡ length (kids t from rows)
length-tasks_for t from lanes [] are = refl
length-tasks_for t from lanes (row ∷ rows) are =
    omega (arith, length-append (tasks_for_row lanes row) (tasks_for (map moved lanes) rows), length-append (kids_by t from row) (kids t from rows), length-tasks_for_row t from lanes row are, length-tasks_for t from (map moved lanes) rows (AreLanesOf-moved t from lanes are))

pub AreLanesOf-after : (t : Topology) (from : Origin) (lanes : List Lane) (rows : List (List Value)) → AreLanesOf t from lanes → AreLanesOf t from (lanes_after lanes rows)
AreLanesOf-after t from lanes [] are = are
AreLanesOf-after t from lanes (row ∷ rows) are = AreLanesOf-after t from (map moved lanes) rows (AreLanesOf-moved t from lanes are)

pub All-after : (lanes : List Lane) (rows : List (List Value)) → All IsLane lanes → All IsLane (lanes_after lanes rows)
All-after lanes [] all = all
All-after lanes (row ∷ rows) all = All-after (map moved lanes) rows (All-moved lanes all)

-- ---- at the start

started_lanes : (t : Topology) (subs : List Sub) (starts : List ℕ) → length starts ≡ length subs → AllZip (IsLaneOf t) subs (lanes_of t subs starts)
started_lanes t [] starts same = tt
started_lanes t (sub ∷ subs) [] same = absurd (omega arith)
started_lanes t (sub ∷ subs) (start ∷ starts) same = (record { first = refl; tasks = refl; by = refl }, started_lanes t subs starts (omega arith))

pub AreLanesOf-started : (t : Topology) (from : Origin) (starts : List ℕ) → length starts ≡ length (subs_of t from) → AreLanesOf t from (lanes_of t (subs_of t from) starts)
AreLanesOf-started t from starts same = started_lanes t (subs_of t from) starts same

-- ---- a row along one lane

length_lanes : (t : Topology) (subs : List Sub) (lanes : List Lane) → AllZip (IsLaneOf t) subs lanes → length subs ≡ length lanes
length_lanes t [] [] are = refl
length_lanes t [] (lane ∷ lanes) are = absurd are
length_lanes t (sub ∷ subs) [] are = absurd are
length_lanes t (sub ∷ subs) (lane ∷ lanes) are = ap suc (length_lanes t subs lanes are.1)

pub length-subs : (t : Topology) (from : Origin) (lanes : List Lane) → AreLanesOf t from lanes → length (subs_of t from) ≡ length lanes
length-subs t from lanes are = length_lanes t (subs_of t from) lanes are

pub at_place : {X : Type 0} (xs : List X) (i : ℕ) → i < length xs → (x : X) × (slice_get xs i ≡ Some x)
at_place [] i within = absurd (omega arith)
at_place (x ∷ xs) zero within = (x, refl)
at_place (x ∷ xs) (suc i) within = at_place xs i (omega arith)

pub index_at : {X : Type 0} (xs : List X) (i : ℕ) (d x : X) → slice_get xs i ≡ Some x → slice_index_or xs i d ≡ x
index_at [] i d x there = absurd (none-some x there)
index_at (y ∷ xs) zero d x there = same_Some y x there
index_at (y ∷ xs) (suc i) d x there = index_at xs i d x there

pub lane_at : (t : Topology) (subs : List Sub) (lanes : List Lane) (i : ℕ) (sub : Sub) (lane : Lane) → AllZip (IsLaneOf t) subs lanes → slice_get subs i ≡ Some sub → slice_get lanes i ≡ Some lane → IsLaneOf t sub lane
lane_at t [] lanes i sub lane are there is = absurd (none-some sub there)
lane_at t (s ∷ subs) [] i sub lane are there is = absurd (none-some lane is)
lane_at t (s ∷ subs) (l ∷ lanes) zero sub lane are there is = subst (λ (x : Sub). IsLaneOf t x lane) (same_Some s sub there) (subst (IsLaneOf t s) (same_Some l lane is) are.0)
lane_at t (s ∷ subs) (l ∷ lanes) (suc i) sub lane are there is = lane_at t subs lanes i sub lane are.1 there is

routed_lanes : (t : Topology) (subs : List Sub) (lanes : List Lane) (i : ℕ) (lane : Lane) → AllZip (IsLaneOf t) subs lanes → slice_get lanes i ≡ Some lane → AllZip (IsLaneOf t) subs (slice_set lanes i (moved lane))
routed_lanes t [] [] i lane are there = absurd (none-some lane there)
routed_lanes t [] (l ∷ lanes) i lane are there = absurd are
routed_lanes t (sub ∷ subs) [] i lane are there = absurd are
routed_lanes t (sub ∷ subs) (l ∷ lanes) zero lane are there =
    let is : IsLaneOf t sub lane = subst (IsLaneOf t sub) (same_Some l lane there) are.0 in
    (record { first = is.first; tasks = is.tasks; by = is.by }, are.1)
routed_lanes t (sub ∷ subs) (l ∷ lanes) (suc i) lane are there = (are.0, routed_lanes t subs lanes i lane are.1 there)

-- the lanes after a row's way along one of them are the source's
pub AreLanesOf-routed : (t : Topology) (from : Origin) (lanes new : List Lane) (i : ℕ) → AreLanesOf t from lanes → i < length lanes
    → ((lane : Lane) → slice_get lanes i ≡ Some lane → new ≡ slice_set lanes i (moved lane)) → AreLanesOf t from new
AreLanesOf-routed t from lanes new i are within moves =
    let found = at_place lanes i within in
    subst (AreLanesOf t from) (sym (moves found.0 found.1)) (routed_lanes t (subs_of t from) lanes i found.0 are found.1)

few_by : (first tasks turn : ℕ) (by : Grouping) (row : List Value) → 1 ≤ tasks → first + tasks ≤ most_tasks_in_all → AreFew (targets_by first tasks turn by row)
few_by first tasks turn grouping.Shuffle row some few = tt
few_by first tasks turn (grouping.Fields key) row some few = tt
few_by first tasks turn grouping.All row some few = (some, few)
few_by first tasks turn grouping.Global row some few = tt
few_by first tasks turn (grouping.Direct field) row some few = tt

pub few_targets : (lanes : List Lane) (row : List Value) (i : ℕ) (found : Targets) → All IsLane lanes → i < length lanes
    → ((lane : Lane) → slice_get lanes i ≡ Some lane → found ≡ targets lane row) → AreFew found
few_targets lanes row i found each within is =
    let place = at_place lanes i within in
    let lane : Lane = place.0 in
    let sound : IsLane lane = subst IsLane (index_at lanes i lane lane place.1) (each i lane within) in
    subst AreFew (sym (is lane place.1)) (few_by lane.first lane.tasks lane.turn lane.by row sound.some sound.few)

-- ---- how many subscriptions

rising : (xs : List ℕ) → IsStrictlyIncreasing xs → (k : ℕ) → k < length xs → k ≤ slice_index xs k
rising xs grows zero within = omega arith
rising xs grows (suc k) within =
    let before = rising xs grows k (omega arith) in
    let step = grows k (omega arith) in
    let e : k + 1 ≡ suc k = omega arith in
    omega (arith, ap (λ n. slice_index xs n) e)

few_by_number : (t : Topology) (subs : List Sub) → All (IsTarget t) subs → IsStrictlyIncreasing (map (λ (sub : Sub). sub.to) subs) → length subs ≤ length t.components
few_by_number t [] there grows = omega arith
few_by_number t (sub ∷ subs) there grows =
    let k = length subs in
    let whole = length-map (sub ∷ subs) (λ (s : Sub). s.to) in
    let high = rising (map (λ (s : Sub). s.to) (sub ∷ subs)) grows k (omega arith) in
    let at : slice_index (map (λ (s : Sub). s.to) (sub ∷ subs)) k ≡ (get_or (sub ∷ subs) k sub).to = get_or-map (λ (s : Sub). s.to) (sub ∷ subs) k sub 0 (omega arith) in
    omega (arith, there k sub (omega arith))

-- a source has at most 40 subscriptions
pub few_subs : (t : Topology) (from : Origin) → IsValid t → IsWired t → length (subs_of t from) ≤ 40
few_subs t from valid wired =
    let few = few_by_number t (subs_of t from) (valid.targets from) (wired.once from) in
    omega (arith, valid.components)
