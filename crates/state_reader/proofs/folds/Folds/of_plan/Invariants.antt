use Rattle.std.proofs.Common.{◌≡◌, map, take}
use Rattle.tree_model.specs.topology_plan.declared.parts.Component.{Component}
use Rattle.state_reader.specs.Folds.{fold_by}
use Rattle.state_reader.proofs.folds.Folds.of_plan.Given as goal

abbrev pub invariant-loop-number : goal.invariant-loop-number
invariant-loop-number l = l.by_component.items ≡ map (λ (component : Component). fold_by component.body) (take l.number l.plan.components)
