use Rattle.std.proofs.Common.{◌≡◌, ◌<◌, ◌⊎◌, ℕ, List, length, refl, rules, subst, sum, sym}
use Rattle.event_worlds.specs.Rounds.{rounds_needed}
use Rattle.event_worlds.specs.taken_records.Cuts.{Cut}
use Rattle.storm_resume.specs.schedule_core.Runs.{first_answers}
use Rattle.storm_resume.proofs.storm_answers.ReportLemmas.{ends_so, free_over, none_rose, report_if, rounds_end, unfollowed, work_finishes, work_short, work_stops}
use Rattle.event_worlds.specs.attempt_fates.declared.fates.Attempt.{Attempt}
use Rattle.storm_resume.specs.storm_answers.Outside.{RunUse, run_use, ticks_use}
use Rattle.storm_resume.specs.storm_answers.Reports.{EndsSo}
use Rattle.storm_resume.specs.storm_answers.Runs.{IsNotBegun, IsShort, ticks_of_run}
use Rattle.storm_resume.specs.storm_answers.steps.Ended.{IsRoundsEnd}
use Rattle.storm_resume.specs.stored_runs.declared.ending.RunEnd.{RunEnd}
use Rattle.storm_resume.specs.stored_runs.Makers.{maker_use}
use Rattle.storm_program.proofs.run.run_accepted.Goals as goal

pub returns-clause-report : goal.returns-clause-report
returns-clause-report g c =
    let many : c.len-records.result ≡ length c.in_ok-offers.offers.records = search rules in
    report_if _ _ _ _ _ _ _ c.in_ok-offers.ensures.cut _ many c.in_ok-ending.ending c.text_of_end.result c.in_ok-offers.ensures.input c.text_of_end.ensures.all c.text_of_end.ensures.done c.in_ok-ending.ensures.comes c.run_over.ensures.back

pub returns-clause-stop : goal.returns-clause-stop
returns-clause-stop g c =
    let many : c.len-records.result ≡ length c.in_ok-offers.offers.records = search rules in
    let base : RunUse = (run_use (maker_use g.M.C.CellStore.tells g.M.C.CellStore.fault_count g.M.StoreMaker.holds g.M.StoreMaker.has_made g.M.StoreMaker.fault_count c.args.stores.now c.run_over.new.stores) (g.N.IdMaker.tells c.args.ids.now)) in
    let fates : List Attempt = c.run_over.new.fates in
    let ticks : ℕ = ticks_of_run (ticks_use g.T.Ticks.handed_out g.T.Ticks.tells c.args.ticks.now c.run_over.new.ticks) in
    let Ends : RunEnd → List ℕ → Type 0 = λ ending text. IsRoundsEnd ending × EndsSo (g.O.RowOp.meaning c.args.custom.now) c.args.files.plan c.args.files.rows base ticks fates ending text in
    work_stops Ends (IsNotBegun base fates ⊎ IsShort (g.O.RowOp.meaning c.args.custom.now) c.args.files.plan c.args.files.rows base fates) _ _ _ c.in_ok-ending.ending c.text_of_end.result
    (λ text printed. (
      rounds_end c.run_over.result c.in_ok-ending.ending c.in_ok-ending.was c.run_over.ensures.goes_on,
      ends_so _ _ _ _ _ _ _ c.in_ok-offers.ensures.cut _ many c.in_ok-ending.ending c.in_ok-ending.ensures.comes c.run_over.ensures.back text printed,
    ))
    (work_short (g.O.RowOp.meaning c.args.custom.now) c.args.files.plan c.args.files.rows base ticks fates _ c.in_ok-offers.ensures.cut c.run_over.ensures.once c.run_over.ensures.back c.in_ok-ending.ensures.comes.stands)
    c.text_of_end.ensures.stop

pub text_of_end-requires : goal.text_of_end-requires
text_of_end-requires g c =
    unfollowed _ (λ w. 0) _ _ c.run_over.new.fates c.run_over.result c.in_ok-ending.ending (λ w. refl) c.in_ok-ending.was c.run_over.ensures.followed

pub returns-clause-finishes : goal.returns-clause-finishes
returns-clause-finishes g c = λ to_come told all_open free few.
    let here = free_over (g.O.RowOp.meaning c.args.custom.now) c.args.files.plan c.args.files.rows (run_use (maker_use g.M.C.CellStore.tells g.M.C.CellStore.fault_count g.M.StoreMaker.holds g.M.StoreMaker.has_made g.M.StoreMaker.fault_count c.args.stores.now c.run_over.new.stores) (g.N.IdMaker.tells c.args.ids.now)) c.run_over.new.fates c.in_ok-offers.offers c.in_ok-offers.ensures.cut free in
    let few_here = subst (λ (k : Cut). sum (first_answers (rounds_needed c.args.files.plan (g.O.RowOp.meaning c.args.custom.now) k) to_come) < c.args.files.plan.buckets) (sym c.in_ok-offers.ensures.cut) few in
    work_finishes _ _ _ c.in_ok-ending.ending c.text_of_end.result (c.in_ok-ending.ensures.finishes to_come told all_open here none_rose few_here) c.text_of_end.ensures.stop
