use Rattle.std.proofs.Common.{◌≡◌, drop, bit_xor}
use Rattle.tree_model.specs.tuple_tickets.Edges.{xor_ids}
use Rattle.acker_core.proofs.entry.xor_of.Given as goal

abbrev pub invariant-loop-edge : goal.invariant-loop-edge
invariant-loop-edge l = bit_xor l.word (xor_ids (drop l.edge-index l.edges)) ≡ xor_ids l.edges
