use Rattle.std.proofs.Common.{rules, [], ◌∷◌, All, lit<, refl}
use Rattle.std.proofs.lemmas.Iterator.Consumers.{YieldsList-end, YieldsList-turn}
use Rattle.std.proofs.lemmas.Iterator.Splits.{YieldsList-from_str_split}
use Rattle.bolt_ops.specs.Operations.{out, pieces}
use Rattle.storm_values.specs.Rows.{IsRow}
use Rattle.topology_plan.specs.declared.parts.Origin.TheVariants as origin
use Rattle.topology_plan.specs.Wired.{width_of}
use Rattle.tree_model.specs.Trees.{Node, word_rows}
use Rattle.tree_model.proofs.Walks.{nodes_from-kids, walked-node, word_rows-at}
use Rattle.tree_model.proofs.Within.{rows_within}
use Rattle.tree_model.proofs.tree.Tree.+walk.Goals as goal

pub visit_node-returns : goal.visit_node-returns
visit_node-returns g t c =
    let plan = c.args.self.now.plan.now in
    let custom = g.O.RowOp.meaning c.args.self.now.custom.now in
    let node : Node = record { component = c.args.component; row = c.args.row.now } in
    walked-node c.visit_below.result (g.V.Visitor.visited plan) c.args.visitor.now c.visit.new.self c.visit_below.new.visitor node _ _ c.in_ok-visit.ensures (nodes_from-kids plan custom c.args.levels node c.if-levels-eq0.false) c.visit_below.ensures

pub visit_below-visit_made-requires : goal.visit_below-visit_made-requires
visit_below-visit_made-requires g t c =
    let plan = c.args.self.now.plan.now in
    let custom = g.O.RowOp.meaning c.args.self.now.custom.now in
    let made : All (IsRow (width_of plan (origin.Component c.args.component))) (out custom c.in-Bolt.op c.args.row.now) =
    rows_within plan custom c.args.component c.component.result.now c.in-Bolt.op c.args.row.now (out custom c.in-Bolt.op c.args.row.now) (g.O.RowOp.keeps c.args.self.now.custom.now) c.component.ensures.value c.component.ensures.fits c.in-Bolt.is c.requires.row refl in
    search rules

pub visit_words-visit_piece-requires : goal.visit_words-visit_piece-requires
visit_words-visit_piece-requires g t c =
    let plan = c.args.self.now.plan.now in
    let split = c.split-piece-items.ensures in
    let same = c.into_iter-piece-iterator.ensures.into_iter_gives in
    let gives = YieldsList-from_str_split {s = c.into_iter-piece-iterator.result} 32 c.args.text.now
    (lit< tt) (rw same split.text) (rw same split.has_more) (rw same split.pattern) in
    let turn = YieldsList-turn gives c.loop-piece.yielded _ c.loop-piece.yielded_by _ _ c.in-Some.piece c.in-Some.is c.next.ensures.steps in
    let asked : All (IsRow (width_of plan c.args.from)) (word_rows (pieces 32 c.args.text.now)) = search rules in
    let row : All (IsRow (width_of plan c.args.from)) (word_rows (c.in-Some.piece.now ∷ [])) =
    word_rows-at (IsRow (width_of plan c.args.from)) (pieces 32 c.args.text.now) _ c.in-Some.piece.now asked turn.0 turn.1 in
    search rules

pub visit_words-returns : goal.visit_words-returns
visit_words-returns g t c =
    let split = c.split-piece-items.ensures in
    let same = c.into_iter-piece-iterator.ensures.into_iter_gives in
    let gives = YieldsList-from_str_split {s = c.into_iter-piece-iterator.result} 32 c.args.text.now
    (lit< tt) (rw same split.text) (rw same split.has_more) (rw same split.pattern) in
    let all = YieldsList-end gives c.loop-piece.yielded _ c.loop-piece.yielded_by _ _ c.in-None.is c.next.ensures.steps in
    rw (c.loop-piece.invariant, all.0)
