-- A row goes to tasks that the grouping allows.
use Rattle.std.proofs.Common.{◌≡◌, ℕ, ◌+◌, ◌%◌, ◌<◌, ◌≤◌, List, [], ◌∷◌, All, Option, Some, None, pos, negsuc, slice_get, refl, arith}
use Rattle.std.proofs.lemmas.List.Elements.{All-nil, All-cons}
use Rattle.std.proofs.lemmas.List.FromFn.{get_or-range_with_len, length-range_with_len}
use Rattle.std.proofs.Math.Nat.{mod-lt}
use Rattle.storm_values.specs.declared.value.Value.{Value}
use Rattle.storm_values.specs.declared.value.Value.TheVariants.{Int, Text}
use Rattle.storm_values.specs.Keys.{hash_of}
use Rattle.storm_values.specs.Rows.{values_in}
use Rattle.topology_plan.specs.declared.parts.Grouping.{Grouping}
use Rattle.topology_plan.specs.declared.parts.Grouping.TheVariants as grouping
use Rattle.groupings.specs.declared.lane.Lane.{Lane}
use Rattle.groupings.specs.Routing.{chosen, targets_by, targets}
use Rattle.groupings.specs.Allowed.{IsLane, MayGo, IsAllowed, told}

pub chosen-lt : (value : Option Value) (n : ℕ) → 1 ≤ n → chosen value n < n
chosen-lt None n some = omega arith
chosen-lt (Some (Int (pos a))) n some = mod-lt a (omega arith)
chosen-lt (Some (Int (negsuc a))) n some = omega arith
chosen-lt (Some (Text bytes)) n some = mod-lt (hash_of (Text bytes ∷ [])) (omega arith)

-- the task is one of a lane's, and its grouping allows it
abbrev IsOne : ℕ → ℕ → Grouping → List Value → ℕ → Type 0
IsOne first tasks by row task = (k : ℕ) × (task ≡ first + k) × (k < tasks) × MayGo by row tasks k

one : (first tasks : ℕ) (by : Grouping) (row : List Value) (task : ℕ) → IsOne first tasks by row task → All (IsOne first tasks by row) (task ∷ [])
one first tasks by row task is = All-cons (IsOne first tasks by row) task [] is (All-nil (IsOne first tasks by row))

allowed_by : (first tasks turn : ℕ) (by : Grouping) (row : List Value) → 1 ≤ tasks → turn < tasks → All (IsOne first tasks by row) (told (targets_by first tasks turn by row))
allowed_by first tasks turn grouping.Shuffle row some below = one first tasks grouping.Shuffle row (first + turn) (turn, refl, below, below)
allowed_by first tasks turn (grouping.Fields key) row some below =
    let k = hash_of (values_in row key) % tasks in
    one first tasks (grouping.Fields key) row (first + k) (k, refl, mod-lt (hash_of (values_in row key)) (omega arith), refl)
allowed_by first tasks turn grouping.All row some below =
    λ k d inside.
    let less : k < tasks = omega (arith, length-range_with_len first tasks) in
    (k, get_or-range_with_len first tasks k d less, less, less)
allowed_by first tasks turn grouping.Global row some below = one first tasks grouping.Global row first (0, omega arith, omega arith, refl)
allowed_by first tasks turn (grouping.Direct field) row some below =
    let k = chosen (slice_get row field) tasks in
    one first tasks (grouping.Direct field) row (first + k) (k, refl, chosen-lt (slice_get row field) tasks some, refl)

pub targets_allowed : (lane : Lane) (row : List Value) → IsLane lane → All (IsAllowed lane row) (told (targets lane row))
targets_allowed lane row is = allowed_by lane.first lane.tasks lane.turn lane.by row is.some is.turn
