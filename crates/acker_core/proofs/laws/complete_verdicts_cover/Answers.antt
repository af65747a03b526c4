use Rattle.tree_model.specs.Lists.{all_said}
use Rattle.tree_model.proofs.Reading.{growth, all_true_said}
use Rattle.tree_model.proofs.tuple_tickets.Words.{complete_covers}
use Rattle.acker_core.proofs.TellLemmas.{complete-told}
use Rattle.acker_core.proofs.laws.complete_verdicts_cover.Goals as goal

pub returns : goal.returns
returns c = λ t custom rows root list all_true single steady none.
    let covers = complete_covers (growth t custom rows) root (all_said list) (all_true_said t custom rows root list all_true) single steady none in
    let told = complete-told root list in ((λ is. covers.0 (told.0 is)), λ covered. told.1 (covers.1 covered))
