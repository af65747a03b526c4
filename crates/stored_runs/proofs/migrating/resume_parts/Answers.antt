use Rattle.std.proofs.Common.{inl, Result, subst}
use Rattle.event_worlds.specs.commit_order.declared.stop.Stop.{Stop}
use Rattle.stored_runs.proofs.Moved.{StandStill, had_rows, runs_on}
use Rattle.schedule_core.specs.declared.ended.Ended.{Ended}
use Rattle.schedule_core.specs.Runs.{ticks_between}
use Rattle.stored_runs.specs.Closing.{Closes}
use Rattle.stored_runs.proofs.migrating.resume_parts.Goals as goal

pub returns-in-Ok-clause-resumes : goal.returns-in-Ok-clause-resumes
returns-in-Ok-clause-resumes g c =
    let tells = g.C.CellStore.tells in
    let count = g.C.CellStore.fault_count in
    let custom = g.O.RowOp.meaning c.args.custom.now in
    let still : StandStill g.C.CellStore.tells g.C.CellStore.fault_count = record {
      stand = c.parts_with_the_same_cells_stand.ensures.stand;
      are_at = c.parts_with_the_same_cells_stand.ensures.are_at;
    } in
    let laws = c.laws_of_runs.ensures.parts c.args.plan.now custom c.args.offers in
    inl (record {
      rows = had_rows tells count c.args.parts.now c.migrate.new.self c.in-Ok.ensures.done;
      ran = c.run_over_parts-done.new.parts;
      done = c.run_over_parts-done.result;
      runs =
          runs_on tells count c.args.plan.now custom c.args.offers laws still c.args.parts.now
          c.migrate.new.self c.in-Ok.ensures.done (g.N.IdMaker.tells c.args.ids.now)
          (ticks_between (g.T.Ticks.handed_out c.args.ticks.now)
          (g.T.Ticks.handed_out c.run_over_parts-done.new.ticks))
          c.run_over_parts-done.result c.run_over_parts-done.new.fates
          c.run_over_parts-done.new.parts c.run_over_parts-done.ensures.runs;
      closes =
          subst
          (λ (answer : Result Ended Stop).
          Closes tells count c.args.plan.now answer c.run_over_parts-done.new.parts
          c.close.new.parts c.close.result)
          c.as_ended.ensures c.close.ensures.closes;
      plans = c.close.ensures.plans;
      read = c.close.ensures.read;
      quiet = c.close.ensures.quiet;
    })
