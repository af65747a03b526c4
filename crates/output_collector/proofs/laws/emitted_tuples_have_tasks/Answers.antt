use Rattle.output_collector.proofs.Lanes.{length-tasks_for, AreLanesOf-after, All-after}
use Rattle.output_collector.proofs.laws.emitted_tuples_have_tasks.Goals as goal

pub returns-clause-tasks : goal.returns-clause-tasks
returns-clause-tasks c = length-tasks_for

pub returns-clause-kept : goal.returns-clause-kept
returns-clause-kept c = AreLanesOf-after

pub returns-clause-sound : goal.returns-clause-sound
returns-clause-sound c = All-after
