use Rattle.std.proofs.Common.{◌≡◌, take}
use Rattle.tree_model.specs.tuple_tickets.Edges.{xor_ids}
use Rattle.track_window.proofs.walk.word_of.Given as goal

abbrev pub invariant-loop-edge : goal.invariant-loop-edge
invariant-loop-edge l = l.word ≡ xor_ids (take l.edge-index l.edges)
