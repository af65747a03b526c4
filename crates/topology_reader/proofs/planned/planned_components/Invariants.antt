use Rattle.std.proofs.Common.{◌≡◌, map, take}
use Rattle.topology_reader.proofs.Common.{enumerate_from, components_of, planned_component, first_task_of}
use Rattle.topology_reader.proofs.planned.planned_components.Given as goal

abbrev pub invariant-loop-c : goal.invariant-loop-c
invariant-loop-c l = record {
  added : l.components.items ≡ map (planned_component l.wiring) (enumerate_from 0 (take l.c (components_of l.wiring)));
  first_task : l.first_task ≡ first_task_of l.wiring l.c;
}
