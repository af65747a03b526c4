use Rattle.std.proofs.Common.{◌≡◌, ◌++◌, ◌∷◌, [], ap, arith}
use Rattle.std.proofs.lemmas.Grind.{common_steps}
use Rattle.std.specs.Vec.Iter.{into_iter_items}
use Rattle.fold_tables.proofs.Pieces.{but_all, but_first, but_none}
use Rattle.fold_tables.proofs.piece.Piece.add_all.Goals as goal

pub loop-write-init : goal.loop-write-init
loop-write-init g c =
    let all : into_iter_items c.into_iter-write-iterator.result ≡ c.args.writes = grind (arith, common_steps) in
    record {
      can_go_on = tt;
      will_end = tt;
      count = c.requires;
      parts = λ made is. but_all c.args.plan.now (g.O.RowOp.meaning c.args.custom.now) made c.args.writes (into_iter_items c.into_iter-write-iterator.result) c.args.self.now all is;
    }

pub loop-write-preserved : goal.loop-write-preserved
loop-write-preserved g c =
    let head : into_iter_items c.loop-write.write-iterator ≡ c.in-Some.write ∷ into_iter_items c.next.new.self = grind (arith, common_steps) in
    record {
      can_go_on = tt;
      will_end = tt;
      count = c.in_ok-add.ensures.length;
      parts = λ made is.
          but_first c.args.plan.now (g.O.RowOp.meaning c.args.custom.now) (made ++ c.args.writes) c.in-Some.write (into_iter_items c.next.new.self) c.loop-write.self c.add.new.self c.in_ok-add.ensures.more
          (rw head at (c.loop-write.invariant.parts made is));
    }

pub returns-clause-more : goal.returns-clause-more
returns-clause-more g c =
    let none : into_iter_items c.loop-write.write-iterator ≡ [] = grind (arith, common_steps) in
    λ made is. but_none c.args.plan.now (g.O.RowOp.meaning c.args.custom.now) (made ++ c.args.writes) c.loop-write.self (rw none at (c.loop-write.invariant.parts made is))
