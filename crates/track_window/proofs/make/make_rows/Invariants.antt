use Rattle.std.specs.List.{flat_map}
use Rattle.tree_model.specs.Trees.{kids}
use Rattle.track_window.specs.Making.{Makes}
use Rattle.track_window.proofs.make.make_rows.Given as goal

abbrev pub invariant-loop-row : goal.invariant-loop-row
invariant-loop-row g l = Makes l.plan l.below.root l.below.path.now (kids l.plan l.from l.yielded) l.fn.edges l.fn.jobs.items l.edges l.jobs.items
