use Rattle.worker_runs.proofs.Ending.{comes-not-begun}
use Rattle.worker_runs.proofs.by_workers.run_by_workers.Goals as goal

pub returns-in-Err-clause-comes : goal.returns-in-Err-clause-comes
returns-in-Err-clause-comes g c =
    let t = c.args.plan.now in
    let custom = g.O.RowOp.meaning c.args.custom.now in
    let cut = c.args.offers in
    comes-not-begun (g.N.IdMaker.tells c.args.ids.now) (g.T.Ticks.tells c.args.ticks.now) (g.V.Avail.tells c.args.avail.now) g.C.CellStore.tells g.C.CellStore.fault_count t custom cut (c.laws_of_runs.ensures t custom cut) (g.T.Ticks.handed_out c.args.ticks.now) c.args.fates.now c.args.parts.now c.requires.input c.requires.empty

pub returns-in-Err-new-clause-comes : goal.returns-in-Err-new-clause-comes
returns-in-Err-new-clause-comes g c =
    let t = c.args.plan.now in
    let custom = g.O.RowOp.meaning c.args.custom.now in
    let cut = c.args.offers in
    comes-not-begun (g.N.IdMaker.tells c.args.ids.now) (g.T.Ticks.tells c.args.ticks.now) (g.V.Avail.tells c.args.avail.now) g.C.CellStore.tells g.C.CellStore.fault_count t custom cut (c.laws_of_runs.ensures t custom cut) (g.T.Ticks.handed_out c.args.ticks.now) c.args.fates.now c.args.parts.now c.requires.input c.requires.empty
