use Rattle.std.proofs.Common.{◌≡◌, fold, take}
use Rattle.topology_reader.proofs.Common.{items_by, with_input}
use Rattle.topology_reader.proofs.planned.add_inputs.Given as goal

abbrev pub invariant-loop-input : goal.invariant-loop-input
invariant-loop-input l = items_by l.subs.items ≡ fold (with_input l.wiring l.to) (items_by l.initial.subs.items) (take l.input-index l.inputs)
