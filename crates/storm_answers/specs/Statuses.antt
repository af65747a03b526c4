-- The numbers of the statuses. This project's own.
use Rattle.std.specs.Prelude.{ℕ}
use Rattle.storm_answers.specs.declared.status.Status.{Status}
use Rattle.storm_answers.specs.declared.status.Status.TheVariants as status

abbrev pub code_of : Status → ℕ
code_of status.Done = 0
code_of status.Memory = 1
code_of status.Words = 2
code_of status.Topology = 3
code_of status.Input = 4
code_of status.ReadFault = 5
code_of status.WriteFault = 6
code_of status.Exhausted = 7
code_of status.Unfinished = 8
code_of status.Schedule = 9
code_of status.StoreFault = 10
code_of status.BadCell = 11
code_of status.KeepFault = 12
code_of status.Kept = 13
