use Rattle.std.proofs.Common.{◌≡◌, ◌++◌, drop}
use Rattle.tree_model.specs.Lists.{occurrences}
use Rattle.acker_core.proofs.check.edges_of.Given as goal

abbrev pub invariant-loop-note : goal.invariant-loop-note
invariant-loop-note l = l.edges.items ++ occurrences (drop l.note-index l.list) ≡ occurrences l.list
