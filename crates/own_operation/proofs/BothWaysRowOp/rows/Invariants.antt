use Rattle.std.proofs.Common.{◌≡◌, map}
use Rattle.own_operation.proofs.BothWaysRowOp.rows.Given as goal

abbrev pub invariant-loop-value : goal.invariant-loop-value
invariant-loop-value l = l.reversed ≡ map (λ x. x.now) l.yielded
