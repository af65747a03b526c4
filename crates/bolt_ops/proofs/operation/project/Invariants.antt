use Rattle.std.proofs.Common.{◌≡◌, take}
use Rattle.std.specs.List.{filter_map}
use Rattle.bolt_ops.specs.Operations.{value_at}
use Rattle.bolt_ops.proofs.operation.project.Given as goal

abbrev pub invariant-loop-field : goal.invariant-loop-field
invariant-loop-field l = l.made ≡ filter_map (value_at l.row) (take l.field-index l.fields)
