use Rattle.std.proofs.Common.{replicate}
use Rattle.track_window.specs.Making.{Makes, node}
use Rattle.track_window.proofs.make.make_same.Given as goal

abbrev pub invariant-loop : goal.invariant-loop
invariant-loop g l = Makes l.plan l.below.root l.below.path.now (replicate l.counter (node l.component l.row)) l.fn.edges l.fn.jobs.items l.edges l.jobs.items
