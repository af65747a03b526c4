-- What is printed of a schedule's fault.
use Rattle.std.specs.Prelude.{ℕ, List, ◌++◌, codes, decimal}
use Rattle.schedule_reader.specs.Limits.{most_schedule_bytes}
use Rattle.schedule_reader.specs.declared.fault.ScheduleFault.{ScheduleFault}
use Rattle.schedule_reader.specs.declared.fault.ScheduleFault.TheVariants.{TooLong, Line, NoTask, Memory}

abbrev pub schedule_fault_text : ScheduleFault → List ℕ
schedule_fault_text TooLong =
    codes "longer than " ++ decimal most_schedule_bytes ++ codes " bytes"
schedule_fault_text (Line number) = codes "line " ++ decimal number ++ codes ": not a step"
schedule_fault_text (NoTask number) = codes "line " ++ decimal number ++ codes ": no such number"
schedule_fault_text Memory = codes "out of memory"
