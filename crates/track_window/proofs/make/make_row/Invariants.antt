use Rattle.std.proofs.Common.{take}
use Rattle.std.specs.List.{flat_map}
use Rattle.tree_model.specs.Trees.{copies_at}
use Rattle.track_window.specs.Making.{Makes}
use Rattle.track_window.proofs.make.make_row.Given as goal

abbrev pub invariant-loop-place : goal.invariant-loop-place
invariant-loop-place g l = Makes l.plan l.below.root l.below.path.now (flat_map (copies_at l.plan l.fn.row) (take l.place l.subs)) l.fn.edges l.fn.jobs.items l.edges l.jobs.items
