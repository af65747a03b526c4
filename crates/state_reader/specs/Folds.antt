-- The folds of a topology's states.
use Rattle.std.specs.Prelude.{ℕ, List, map, Option, None, Some, option_and_then, slice_get}
use Rattle.tree_model.specs.topology_plan.declared.parts.Body.{Body}
use Rattle.tree_model.specs.topology_plan.declared.parts.Body.TheVariants.{Bolt, State}
use Rattle.tree_model.specs.topology_plan.declared.parts.Component.{Component}
use Rattle.tree_model.specs.topology_plan.declared.parts.Fold.{Fold}
use Rattle.tree_model.specs.topology_plan.Topology.{Topology}

-- a bolt has no fold
abbrev pub fold_by : Body → Option Fold
fold_by (Bolt op) = None
fold_by (State spec) = Some spec.fold

-- the folds of a topology's states, by component number
abbrev pub folds_in : Topology → List (Option Fold)
folds_in t = map (λ (component : Component). fold_by component.body) t.components

-- the fold of a component number, if it is a state's
abbrev pub fold_at : List (Option Fold) → ℕ → Option Fold
fold_at folds number = option_and_then (λ by. by) (slice_get folds number)
