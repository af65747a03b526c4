use Rattle.std.proofs.Common.{◌≡◌, ◌++◌, IfOk, Result, sym, subst, rules}
use Rattle.tree_model.specs.Trees.{writes}
use Rattle.tree_model.proofs.Walks.{writes-append}
use Rattle.fold_tables.specs.Pieces.{IsPiece}
use Rattle.fold_tables.proofs.fold.+pieces.Goals as goal

-- the writes of joined rows are the joined writes
pub both_halves-returns : goal.both_halves-returns
both_halves-returns g t c =
    let plan = c.args.plan.now in
    let custom = g.O.RowOp.meaning c.args.custom.now in
    let first = writes plan custom c.args.first.now in
    let rest = writes plan custom c.args.rest.now in
    let earlier : IsPiece plan custom first c.in_ok-piece.piece = search (rules, c.join-earlier.ensures.first) in
    let later : IsPiece plan custom rest c.in_ok-later.field-0 = search (rules, c.join-earlier.ensures.second) in
    subst (λ made. IsPiece plan custom made c.merge.new.self) (sym (writes-append plan custom c.args.first.now c.args.rest.now)) (c.in_ok-merge.ensures first rest earlier later)
