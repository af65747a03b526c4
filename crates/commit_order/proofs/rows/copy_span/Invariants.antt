use Rattle.std.proofs.Common.{◌≡◌, ◌++◌, ◌+◌, ◌-◌}
use Rattle.commit_order.proofs.Copying.{from_on}
use Rattle.commit_order.proofs.rows.copy_span.Given as goal

abbrev pub invariant-loop-before : goal.invariant-loop-before
invariant-loop-before l =
    l.into ≡ l.fn.into ++ from_on l.offers.records l.span.first (l.before + 1 - l.span.first)
