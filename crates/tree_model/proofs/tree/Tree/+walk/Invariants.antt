use Rattle.std.proofs.Common.{◌≡◌, fold, map, take, replicate, ◌+◌, ◌*◌}
use Rattle.std.specs.List.{flat_map}
use Rattle.tree_model.specs.Trees.{kids, copies_at, nodes_from, word_rows}
use Rattle.tree_model.proofs.tree.Tree.+walk.Given as goal

abbrev pub decreases-visit_copies : goal.decreases-visit_copies
decreases-visit_copies g l = 7 * l.levels + 1

abbrev pub decreases-visit_node : goal.decreases-visit_node
decreases-visit_node g l = 7 * l.levels

abbrev pub decreases-visit_row : goal.decreases-visit_row
decreases-visit_row g l = 7 * l.levels + 2

abbrev pub decreases-visit_rows : goal.decreases-visit_rows
decreases-visit_rows g l = 7 * l.levels + 3

abbrev pub decreases-visit_piece : goal.decreases-visit_piece
decreases-visit_piece g l = 7 * l.levels + 3

abbrev pub decreases-visit_words : goal.decreases-visit_words
decreases-visit_words g l = 7 * l.levels + 4

abbrev pub decreases-visit_made : goal.decreases-visit_made
decreases-visit_made g l = 7 * l.levels + 5

abbrev pub decreases-visit_below : goal.decreases-visit_below
decreases-visit_below g l = 7 * l.levels + 6

abbrev pub invariant-visit_words-loop-piece : goal.invariant-visit_words-loop-piece
invariant-visit_words-loop-piece g l =
    l.visitor ≡ fold (g.V.Visitor.visited l.self.plan.now) l.initial.visitor (flat_map (nodes_from l.levels l.self.plan.now (g.O.RowOp.meaning l.self.custom.now)) (kids l.self.plan.now l.from (word_rows (map (λ x. x.now) l.yielded))))

abbrev pub invariant-visit_copies-loop : goal.invariant-visit_copies-loop
invariant-visit_copies-loop g l =
    l.visitor ≡ fold (g.V.Visitor.visited l.self.plan.now) l.initial.visitor (flat_map (nodes_from l.levels l.self.plan.now (g.O.RowOp.meaning l.self.custom.now)) (replicate l.counter (record { component = l.sub.to; row = l.row })))

abbrev pub invariant-visit_row-loop-sub : goal.invariant-visit_row-loop-sub
invariant-visit_row-loop-sub g l =
    l.visitor ≡ fold (g.V.Visitor.visited l.self.plan.now) l.initial.visitor (flat_map (nodes_from l.levels l.self.plan.now (g.O.RowOp.meaning l.self.custom.now)) (flat_map (copies_at l.self.plan.now l.row) (take l.sub-index l.sub-items)))

abbrev pub invariant-visit_rows-loop-row : goal.invariant-visit_rows-loop-row
invariant-visit_rows-loop-row g l =
    l.visitor ≡ fold (g.V.Visitor.visited l.self.plan.now) l.initial.visitor (flat_map (nodes_from l.levels l.self.plan.now (g.O.RowOp.meaning l.self.custom.now)) (kids l.self.plan.now l.from (take l.row-index l.rows)))
