use Rattle.std.proofs.Common.{Option, ◌++◌, ◌∷◌, [], map, take, ap, ◌∙◌, sym}
use Rattle.tree_model.specs.topology_plan.declared.parts.Component.{Component}
use Rattle.tree_model.specs.topology_plan.declared.parts.Fold.{Fold}
use Rattle.state_reader.specs.Folds.{fold_by}
use Rattle.state_reader.proofs.ListLaws.{map-take_next}
use Rattle.state_reader.proofs.folds.Folds.of_plan.Goals as goal

pub loop-number-preserved : goal.loop-number-preserved
loop-number-preserved c =
    let fold_in : Component → Option Fold = λ component. fold_by component.body in
    let components = c.args.plan.now.components in
    c.in_ok-push.ensures.items ∙ ap (λ xs. xs ++ c.fold_of.result ∷ []) c.loop-number.invariant ∙ ap (λ by. map fold_in (take c.loop-number.number components) ++ by ∷ []) c.fold_of.ensures
    ∙ sym (map-take_next fold_in components c.loop-number.number c.component.result.now c.component.ensures.value)
