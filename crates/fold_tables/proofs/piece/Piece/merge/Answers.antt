use Rattle.std.proofs.lemmas.Result.{on_ok_weaker}
use Rattle.fold_tables.proofs.Pieces.{IsPiece-merge}
use Rattle.fold_tables.proofs.piece.Piece.merge.Goals as goal

pub returns : goal.returns
returns g c =
    on_ok_weaker c.merge_states.result
    (λ merge made more first second. IsPiece-merge c.args.plan.now (g.O.RowOp.meaning c.args.custom.now) made more c.args.self.now c.args.later _ (g.O.RowOp.keeps c.args.custom.now) c.saturating_add-self.ensures c.merge_states.ensures.length merge first second)
    c.merge_states.ensures.merged
