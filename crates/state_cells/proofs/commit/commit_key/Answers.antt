use Rattle.std.proofs.lemmas.Result.{on_ok_weaker, on_err_weaker}
use Rattle.tree_model.specs.Tables.{folded}
use Rattle.state_cells.proofs.KeyLemmas.{put_broken, put_done, written_if_put}
use Rattle.state_cells.proofs.commit.commit_key.Goals as goal

pub returns-in-Some-clause-ok : goal.returns-in-Some-clause-ok
returns-in-Some-clause-ok g c = on_ok_weaker c.put_cell.result
    (λ put. put_done g.C.CellStore.tells c.args.batch.kind (folded (g.O.RowOp.meaning c.args.custom.now) c.args.batch.by) c.args.batch.root c.args.amounts.now c.args.key.now c.in-Ok.cell
    c.args.store.now c.find_cell.new.store c.put_cell.new.store c.in-Some.new
    (c.in-Ok.ensures.found, c.in-Ok.ensures.same) c.in-Some.ensures.made c.in-Some.ensures.good
    (written_if_put c.args.batch.kind c.args.amounts.now c.change.result c.in-Some.new c.change.ensures.left c.in-Some.is) put)
    c.put_cell.ensures.done

pub returns-in-Some-clause-err : goal.returns-in-Some-clause-err
returns-in-Some-clause-err g c = on_err_weaker c.put_cell.result
    (λ put. put_broken g.C.CellStore.tells c.args.batch.kind (folded (g.O.RowOp.meaning c.args.custom.now) c.args.batch.by) c.args.batch.root c.args.amounts.now c.args.key.now c.in-Ok.cell
    c.args.store.now c.find_cell.new.store c.put_cell.new.store c.in-Some.new
    (c.in-Ok.ensures.found, c.in-Ok.ensures.same) c.in-Some.ensures.made c.in-Some.ensures.good
    (written_if_put c.args.batch.kind c.args.amounts.now c.change.result c.in-Some.new c.change.ensures.left c.in-Some.is) put)
    c.put_cell.ensures.broken
