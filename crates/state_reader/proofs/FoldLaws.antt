-- The folds of a topology's states, by component number.
use Rattle.std.proofs.Common.{◌≡◌, ◌≢◌, ℕ, zero, suc, List, [], ◌∷◌, map, slice_get, Option, Some, None, IfSome, refl, ap, sym, ◌∙◌}
use Rattle.std.proofs.lemmas.Option.{none-some, same_Some}
use Rattle.std.specs.Option.{option_and_then, option_map}
use Rattle.tree_model.specs.bolt_ops.RowOp.{Custom}
use Rattle.tree_model.specs.Tables.{Folding, StateOf, base, folded, state_at, state_by}
use Rattle.tree_model.specs.topology_plan.declared.parts.Body.{Body}
use Rattle.tree_model.specs.topology_plan.declared.parts.Body.TheVariants.{Bolt, State}
use Rattle.tree_model.specs.topology_plan.declared.parts.Component.{Component}
use Rattle.tree_model.specs.topology_plan.declared.parts.Fold.{Fold}
use Rattle.tree_model.specs.topology_plan.declared.parts.Fold.TheVariants.{Count, Sum, Last, Max}
use Rattle.tree_model.specs.topology_plan.declared.parts.Fold.TheVariants as fold_of
use Rattle.tree_model.specs.topology_plan.Topology.{Topology}
use Rattle.state_reader.specs.Commits.{value_after, writes_of_all, Commit}
use Rattle.state_reader.specs.Folds.{fold_at, fold_by, folds_in}
use Rattle.state_reader.specs.Totals.{folding}

fold_in : Component → Option Fold
fold_in component = fold_by component.body

by_body : (custom : Custom) (number : ℕ) (component : Component) (body : Body) → option_map (folded custom) (fold_by body) ≡ option_map (λ (state : StateOf). state.by) (state_by custom number component body)
by_body custom number component (Bolt op) = refl
by_body custom number component (State spec) = refl

at_component : (custom : Custom) (number : ℕ) (component : Option Component) → option_map (folded custom) (option_and_then (λ (c : Component). fold_by c.body) component) ≡ option_map (λ (state : StateOf). state.by) (option_and_then (λ (c : Component). state_by custom number c c.body) component)
at_component custom number None = refl
at_component custom number (Some component) = by_body custom number component component.body

found : (components : List Component) (n : ℕ) → fold_at (map (λ (c : Component). fold_by c.body) components) n ≡ option_and_then (λ (c : Component). fold_by c.body) (slice_get components n)
found [] n = refl
found (component ∷ components) zero = refl
found (component ∷ components) (suc n) = found components n

fold_at-state : (t : Topology) (custom : Custom) (number : ℕ) → option_map (folded custom) (fold_at (folds_in t) number) ≡ option_map (λ (state : StateOf). state.by) (state_at t custom number)
fold_at-state t custom number = ap (option_map (folded custom)) (found t.components number) ∙ at_component custom number (slice_get t.components number)

-- what a fold does that asks no operation
other : (custom : Custom) (by : Fold) → Some by ≢ Some fold_of.Custom → folding by ≡ folded custom by
other custom Count is_other = refl
other custom Sum is_other = refl
other custom Last is_other = refl
other custom Max is_other = refl
other custom fold_of.Custom is_other = absurd (is_other refl)

pub value_after-base : (t : Topology) (custom : Custom) (number : ℕ) (commits : List Commit) (key : List ℕ) → fold_at (folds_in t) number ≢ Some fold_of.Custom → IfSome (state_at t custom number) (λ state. value_after (fold_at (folds_in t) number) commits number key ≡ base state.by (writes_of_all commits) number key)
value_after-base t custom number commits key is_other = on (fold_at (folds_in t) number) (state_at t custom number) is_other (fold_at-state t custom number)
  where
    on : (by : Option Fold) (o : Option StateOf) → by ≢ Some fold_of.Custom → option_map (folded custom) by ≡ option_map (λ (state : StateOf). state.by) o → IfSome o (λ state. value_after by commits number key ≡ base state.by (writes_of_all commits) number key)
    on by None is_other is = tt
    on None (Some state) is_other is = absurd (none-some state.by is)
    on (Some by) (Some state) is_other is = ap (λ (f : Folding). base f (writes_of_all commits) number key) (other custom by is_other ∙ same_Some _ _ is)
