use Rattle.std.proofs.Common.{◌≡◌, map}
use Rattle.bolt_ops.proofs.reverse.reversed_row.Given as goal

abbrev pub invariant-loop-value : goal.invariant-loop-value
invariant-loop-value l = l.made ≡ map (λ x. x.now) l.yielded
