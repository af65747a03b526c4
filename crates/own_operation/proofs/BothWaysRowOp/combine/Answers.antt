use Rattle.std.specs.Int.{w128}
use Rattle.std.proofs.lemmas.Int.{wrapping_add_is}
use Rattle.own_operation.proofs.BothWaysRowOp.combine.Goals as goal

pub returns : goal.returns
returns c =
    wrapping_add_is w128 c.args.earlier c.args.later c.ranges.earlier c.ranges.later
