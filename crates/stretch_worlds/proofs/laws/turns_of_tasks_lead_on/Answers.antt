use Rattle.stretch_worlds.proofs.Turning.{task_leads_on}
use Rattle.stretch_worlds.proofs.laws.turns_of_tasks_lead_on.Goals as goal

pub returns : goal.returns
returns c = λ t custom cut words h more w counts n count side sent taken sent_then taken_then left there led works.
    task_leads_on t custom cut words h more w counts n count side sent taken sent_then taken_then left there led works
