-- The lines that a command writes. This project's own.
use Rattle.std.specs.Prelude.{ℕ, List, ◌++◌, codes}
use Rattle.event_worlds.specs.storm_values.declared.lines.InputFault.{InputFault}
use Rattle.event_worlds.specs.storm_values.Faults.{input_fault_text}
use Rattle.schedule_reader.specs.declared.fault.ScheduleFault.{ScheduleFault}
use Rattle.schedule_reader.specs.Faults.{schedule_fault_text}
use Rattle.topology_reader.specs.TopoFault.{TopoFault}
use Rattle.topology_reader.specs.Faults.{fault_text}

-- the line that refuses the words

abbrev pub usage : List ℕ
usage =
    codes "usage: storm check T | plain T I | replay T I S | run T I [W] "
    ++ codes "| load N SEED | track T I [W] | fold T I [W]\n"

-- the lines that refuse a topology, an input and a schedule
abbrev pub topology_line : TopoFault → List ℕ
topology_line fault = codes "topology: " ++ fault_text fault ++ codes "\n"

abbrev pub input_line : InputFault → List ℕ
input_line fault = codes "input: " ++ input_fault_text fault ++ codes "\n"

abbrev pub schedule_line : ScheduleFault → List ℕ
schedule_line fault = codes "schedule: " ++ schedule_fault_text fault ++ codes "\n"

-- the lines of a topology, an input and a schedule that were not read
abbrev pub topology_not_read : List ℕ
topology_not_read = codes "read fault topology\n"

abbrev pub input_not_read : List ℕ
input_not_read = codes "read fault input\n"

abbrev pub schedule_not_read : List ℕ
schedule_not_read = codes "read fault schedule\n"

-- the lines of a run whose tables were not read, and of one that met a bad cell
abbrev pub store_fault_line : List ℕ
store_fault_line = codes "store fault\n"

abbrev pub bad_cell_line : List ℕ
bad_cell_line = codes "bad cell\n"
