use Rattle.std.proofs.Common.{◌<◌, refl, subst, sum, sym, string_bytes}
use Rattle.std.proofs.lemmas.Result.{IfOk-weaker}
use Rattle.event_worlds.specs.Rounds.{rounds_needed}
use Rattle.event_worlds.specs.storm_values.Counts.{Rose}
use Rattle.resume_meta.specs.declared.meta.Meta.{Meta}
use Rattle.storm_answers.proofs.EndLemmas.{IfErr-exit, Stops-weaker, stops_on}
use Rattle.storm_answers.proofs.FileCauses.{untouched}
use Rattle.storm_answers.specs.Outside.{RunUse, run_use, ticks_use}
use Rattle.storm_answers.specs.Runs.{ticks_of_run}
use Rattle.storm_answers.specs.declared.status.Status.TheVariants as status
use Rattle.storm_answers.specs.schedule_core.Runs.{first_answers}
use Rattle.storm_answers.specs.stored_runs.Makers.{maker_use}
use Rattle.storm_answers.specs.stored_runs.StoredRuns.{NothingIsInTheWay}
use Rattle.storm_resume.proofs.Calling.{Through, comes_of_start, comes_through, start_finishes}
use Rattle.storm_resume.proofs.Goings.{one_start}
use Rattle.storm_resume.specs.Keeping.{KeeperUse, keeper_use}
use Rattle.storm_resume.specs.Resume.{cut_after}
use Rattle.storm_resume.proofs.going_on.resume_accepted.Goals as goal

pub returns-in_err-start-clause-stop : goal.returns-in_err-start-clause-stop
returns-in_err-start-clause-stop g c =
    IfErr-exit c.from_residual-in_err-start.result _ _ c.from_residual-in_err-start.ensures.1 (
    Stops-weaker _ _ c.in_err-start.field-0.0
    (comes_of_start (g.O.RowOp.meaning c.args.custom.now) c.args.files.plan c.args.files.rows
    (run_use (maker_use g.M.C.CellStore.tells g.M.C.CellStore.fault_count g.M.StoreMaker.holds g.M.StoreMaker.has_made g.M.StoreMaker.fault_count c.args.stores.now c.args.stores.now) (g.N.IdMaker.tells c.args.ids.now))
    (keeper_use g.P.Keeper.holds g.P.Keeper.fault_count c.args.keeper.now.keeper c.start_of.new.keeper.keeper)
    (ticks_of_run (ticks_use g.T.Ticks.handed_out g.T.Ticks.tells c.args.ticks.now c.args.ticks.now)) c.args.fates.now
    (c.requires.fates, untouched g.M.C.CellStore.tells g.M.C.CellStore.fault_count g.M.StoreMaker.holds g.M.StoreMaker.has_made g.M.StoreMaker.fault_count c.args.stores.now))
    c.in_err-start.ensures.stop)

pub returns-in_err-start-clause-finishes : goal.returns-in_err-start-clause-finishes
returns-in_err-start-clause-finishes g c = λ free.
    IfErr-exit c.from_residual-in_err-start.result _ _ c.from_residual-in_err-start.ensures.1 (
    start_finishes (g.O.RowOp.meaning c.args.custom.now) c.args.files.plan c.args.files.rows
    (run_use (maker_use g.M.C.CellStore.tells g.M.C.CellStore.fault_count g.M.StoreMaker.holds g.M.StoreMaker.has_made g.M.StoreMaker.fault_count c.args.stores.now c.args.stores.now) (g.N.IdMaker.tells c.args.ids.now))
    (keeper_use g.P.Keeper.holds g.P.Keeper.fault_count c.args.keeper.now.keeper c.start_of.new.keeper.keeper)
    (ticks_of_run (ticks_use g.T.Ticks.handed_out g.T.Ticks.tells c.args.ticks.now c.args.ticks.now)) c.args.fates.now
    (c.requires.fates, untouched g.M.C.CellStore.tells g.M.C.CellStore.fault_count g.M.StoreMaker.holds g.M.StoreMaker.has_made g.M.StoreMaker.fault_count c.args.stores.now)
    c.metas_have_texts_of_their_own.ensures _ _ _ free c.in_err-start.field-0.0 c.in_err-start.ensures.stop)

pub returns-clause-report : goal.returns-clause-report
returns-clause-report g c =
    let base : RunUse = (run_use (maker_use g.M.C.CellStore.tells g.M.C.CellStore.fault_count g.M.StoreMaker.holds g.M.StoreMaker.has_made g.M.StoreMaker.fault_count c.args.stores.now c.resume_from.new.stores) (g.N.IdMaker.tells c.args.ids.now)) in
    let whole : KeeperUse = keeper_use g.P.Keeper.holds g.P.Keeper.fault_count c.args.keeper.now.keeper c.resume_from.new.keeper.keeper in
    let rest : KeeperUse = keeper_use g.P.Keeper.holds g.P.Keeper.fault_count c.start_of.new.keeper.keeper c.resume_from.new.keeper.keeper in
    let same = c.in_ok-start.ensures.same in
    let passes : Through whole rest = record { same = same.same; holds = λ held holding. holding; before = sym same.no_fault; after = refl } in
    let through = comes_through (g.O.RowOp.meaning c.args.custom.now) c.args.files.plan c.args.files.rows base whole rest
    (ticks_of_run (ticks_use g.T.Ticks.handed_out g.T.Ticks.tells c.args.ticks.now c.resume_from.new.ticks)) c.resume_from.new.fates passes in
    IfOk-weaker c.resume_from.result _ _ (λ text comes. through status.Done (string_bytes text) comes) c.resume_from.ensures.report

pub returns-clause-stop : goal.returns-clause-stop
returns-clause-stop g c =
    let base : RunUse = (run_use (maker_use g.M.C.CellStore.tells g.M.C.CellStore.fault_count g.M.StoreMaker.holds g.M.StoreMaker.has_made g.M.StoreMaker.fault_count c.args.stores.now c.resume_from.new.stores) (g.N.IdMaker.tells c.args.ids.now)) in
    let whole : KeeperUse = keeper_use g.P.Keeper.holds g.P.Keeper.fault_count c.args.keeper.now.keeper c.resume_from.new.keeper.keeper in
    let rest : KeeperUse = keeper_use g.P.Keeper.holds g.P.Keeper.fault_count c.start_of.new.keeper.keeper c.resume_from.new.keeper.keeper in
    let same = c.in_ok-start.ensures.same in
    let passes : Through whole rest = record { same = same.same; holds = λ held holding. holding; before = sym same.no_fault; after = refl } in
    let through = comes_through (g.O.RowOp.meaning c.args.custom.now) c.args.files.plan c.args.files.rows base whole rest
    (ticks_of_run (ticks_use g.T.Ticks.handed_out g.T.Ticks.tells c.args.ticks.now c.resume_from.new.ticks)) c.resume_from.new.fates passes in
    stops_on _ _ c.resume_from.result through c.resume_from.ensures.stop

pub returns-clause-finishes : goal.returns-clause-finishes
returns-clause-finishes g c = λ free.
    let custom = g.O.RowOp.meaning c.args.custom.now in
    let begin : Meta = c.in_ok-start.start in
    let same = one_start c.metas_have_texts_of_their_own.ensures free.tells_start.held free.start begin _ free.tells_start.was_kept (c.in_ok-start.ensures.kept free.tells_start.held free.tells_start.told) free.tells_start.of_input.same_number c.in_ok-start.ensures.of_input.same_number in
    c.resume_from.ensures.finishes free.to_come free.told free.all_open
    (subst (λ (m : Meta). NothingIsInTheWay c.args.files.plan custom (cut_after c.args.files.plan c.args.files.rows m) _ c.resume_from.new.fates) same free.free)
    (λ rose. free.keeper_fine (subst (λ n. Rose n (g.P.Keeper.fault_count c.resume_from.new.keeper.keeper)) c.in_ok-start.ensures.same.no_fault rose))
    (subst (λ (m : Meta). sum (first_answers (rounds_needed c.args.files.plan custom (cut_after c.args.files.plan c.args.files.rows m)) free.to_come) < c.args.files.plan.buckets) same free.few_ticks)
