use Rattle.std.proofs.Common.{SFits, rules}
use Rattle.std.proofs.lemmas.Int.{to_z-of_z}
use Rattle.std.proofs.lemmas.Result.{on_ok_weaker}
use Rattle.std.specs.Int.{w64}
use Rattle.fold_tables.proofs.Pieces.{IsPiece-add}
use Rattle.fold_tables.proofs.piece.Piece.add.Goals as goal

pub returns-clause-more : goal.returns-clause-more
returns-clause-more g c =
    let fits : SFits w64 c.args.write.amount = search rules in
    on_ok_weaker c.fold_write.result
    (λ more made is. IsPiece-add c.args.plan.now (g.O.RowOp.meaning c.args.custom.now) made c.args.write c.args.self.now _ fits c.saturating_add-self.ensures c.fold_write.ensures.length (more made c.args.write.part) is)
    (simp to_z-of_z at c.fold_write.ensures.more)
