use Rattle.std.proofs.Common.{◌≡◌, ℕ, List, drop, bit_xor}
use Rattle.message_lists.specs.Packed.{children_from}
use Rattle.tree_model.specs.tuple_tickets.Edges.{xor_ids}
use Rattle.acker_core.proofs.entry.xor_of_ids.Given as goal

abbrev pub invariant-loop-id : goal.invariant-loop-id
invariant-loop-id l = (path : List ℕ) (k : ℕ) → bit_xor l.word (xor_ids (children_from path k (drop l.id-index l.ids))) ≡ xor_ids (children_from path k l.ids)
