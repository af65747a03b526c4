use Rattle.std.proofs.Common.{◌≡◌, ◌+◌, [], fold, replicate, take}
use Rattle.topology_reader.proofs.Common.{enumerate_from, items_by, with_inputs, component_count, inputs_by_component}
use Rattle.topology_reader.proofs.planned.subs_by_source.Given as goal

abbrev pub invariant-loop-to : goal.invariant-loop-to
invariant-loop-to l = items_by l.subs.items ≡ fold (with_inputs l.wiring) (replicate (component_count l.wiring + 1) []) (enumerate_from 0 (take l.to (inputs_by_component l.wiring)))
