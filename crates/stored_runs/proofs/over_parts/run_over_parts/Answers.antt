use Rattle.std.proofs.Common.{◌≡◌, Result, Ok, Err}
use Rattle.event_worlds.specs.commit_order.declared.stop.Stop.{Stop}
use Rattle.event_worlds.specs.commit_order.declared.stop.Stop.TheVariants as stop
use Rattle.schedule_core.specs.declared.ended.Ended.{Ended}
use Rattle.schedule_core.specs.declared.ended.Ended.TheVariants as ended
use Rattle.schedule_core.specs.Runs.{ended as ended_of}
use Rattle.schedule_core.specs.Schedules.{IsAnswer}
use Rattle.stored_runs.proofs.Finished.{rounds_all}
use Rattle.worker_runs.specs.WorkerRuns.{NothingRanOut}
use Rattle.stored_runs.proofs.over_parts.run_over_parts.Goals as goal

-- where all is committed nothing ran out
none_out : (done : Result (Unit {0}) Stop)
    → (IsAnswer (ended_of done) → ended_of done ≡ Ok ended.All) → NothingRanOut done
none_out (Ok all) is = tt
none_out (Err (stop.Exhausted txid)) is = none (is tt)
  where
    none : ◌≡◌ {A = Result Ended Stop} (Err (stop.Exhausted txid)) (Ok ended.All) → ⊥
    none same = cc
none_out (Err (stop.BadCell key)) is = tt
none_out (Err (stop.Follow txid)) is = tt
none_out (Err stop.Memory) is = tt

pub returns-then-workers-eq1-clause-finishes : goal.returns-then-workers-eq1-clause-finishes
returns-then-workers-eq1-clause-finishes g c = λ to_come tells open_all can apart none few.
    let come = c.run_rounds.ensures.comes in
    let custom = g.O.RowOp.meaning c.args.custom.now in
    none_out c.run_rounds.result
    (λ ok.
    let of_world = come.comes.of_world ok in
    rounds_all c.args.plan.now custom c.args.offers
    (c.laws_of_runs.ensures.worlds c.args.plan.now custom c.args.offers) c.requires.input
    (g.O.RowOp.keeps c.args.custom.now) can of_world.0 c.run_rounds.new.fates none apart come.steps
    come.answers come.shuts to_come c.run_rounds.result of_world.1 come.rounds
    (come.shut_none open_all) (come.asked to_come tells) few)
