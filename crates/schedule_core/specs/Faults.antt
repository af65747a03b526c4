-- What stops a run in the middle of its steps. This project's own.
use Rattle.event_worlds.specs.state_parts.declared.answer.CommitFault.{CommitFault}
use Rattle.event_worlds.specs.state_parts.declared.answer.CommitFault.TheVariants as commit
use Rattle.schedule_core.specs.declared.fault.RunFault.{RunFault}
use Rattle.schedule_core.specs.declared.fault.RunFault.TheVariants as fault

-- where the parts did not take a commit
abbrev pub of_commit : CommitFault → RunFault
of_commit (commit.BadCell key) = fault.BadCell key
of_commit commit.Memory = fault.Memory
