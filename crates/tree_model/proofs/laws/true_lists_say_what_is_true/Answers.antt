use Rattle.tree_model.proofs.Reading.{all_true_said, consumed_said, failures_said, inits_said}
use Rattle.tree_model.proofs.laws.true_lists_say_what_is_true.Goals as goal

pub returns-clause-says_true : goal.returns-clause-says_true
returns-clause-says_true c = all_true_said

pub returns-clause-inits : goal.returns-clause-inits
returns-clause-inits c = inits_said

pub returns-clause-failures : goal.returns-clause-failures
returns-clause-failures c = failures_said

pub returns-clause-consumed : goal.returns-clause-consumed
returns-clause-consumed c = consumed_said
