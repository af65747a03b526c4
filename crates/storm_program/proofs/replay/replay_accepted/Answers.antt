use Rattle.std.proofs.Common.{◌≡◌, ◌⊎◌, List, length, refl, rules, sym, subst}
use Rattle.event_worlds.specs.Rounds.{HasRounds, rounds_needed}
use Rattle.event_worlds.specs.attempt_fates.declared.fates.Attempt.{Attempt}
use Rattle.event_worlds.specs.taken_records.Cuts.{Cut}
use Rattle.storm_resume.specs.schedule_core.Schedules.{all_steps}
use Rattle.storm_program.proofs.ReplayLemmas.{replay_report_if}
use Rattle.storm_resume.proofs.storm_answers.ReportLemmas.{ends_so, free_over, none_rose, unfollowed, work_finishes, work_short, work_stops}
use Rattle.storm_resume.specs.storm_answers.Outside.{RunUse, run_use}
use Rattle.storm_program.specs.Replay.{ReplayEndsSo, ticks_of_schedule}
use Rattle.storm_resume.specs.storm_answers.Runs.{IsNotBegun, IsShort}
use Rattle.storm_resume.specs.stored_runs.Makers.{maker_use}
use Rattle.storm_resume.specs.stored_runs.StoredRuns.{IsRunOfWorld}
use Rattle.storm_program.proofs.replay.replay_accepted.Goals as goal

pub returns-clause-report : goal.returns-clause-report
returns-clause-report g c =
    let many : c.len-records.result ≡ length c.in_ok-offers.offers.records = search rules in
    replay_report_if _ _ _ _ _ _ c.in_ok-offers.ensures.cut _ many c.args.events.now c.in_ok-ending.ending c.text_of_end.result c.in_ok-offers.ensures.input c.text_of_end.ensures.all c.text_of_end.ensures.done c.in_ok-ending.ensures.comes c.replay_over.ensures.back c.in_ok-ending.ensures.world

pub returns-clause-stop : goal.returns-clause-stop
returns-clause-stop g c =
    let many : c.len-records.result ≡ length c.in_ok-offers.offers.records = search rules in
    let base : RunUse = (run_use (maker_use g.M.C.CellStore.tells g.M.C.CellStore.fault_count g.M.StoreMaker.holds g.M.StoreMaker.has_made g.M.StoreMaker.fault_count c.args.stores.now c.replay_over.new.stores) (g.N.IdMaker.tells c.args.ids.now)) in
    let fates : List Attempt = c.replay_over.new.fates in
    work_stops (ReplayEndsSo (g.O.RowOp.meaning c.args.custom.now) c.args.files.plan c.args.files.rows c.args.events.now base fates) (IsNotBegun base fates ⊎ IsShort (g.O.RowOp.meaning c.args.custom.now) c.args.files.plan c.args.files.rows base fates) _ _ _ c.in_ok-ending.ending c.text_of_end.result
    (λ text printed. record {
      ends = ends_so _ _ _ _ _ _ _ c.in_ok-offers.ensures.cut _ many c.in_ok-ending.ending c.in_ok-ending.ensures.comes c.replay_over.ensures.back text printed;
      of_world = subst (λ (k : Cut). IsRunOfWorld (g.N.IdMaker.tells c.args.ids.now) c.args.files.plan (g.O.RowOp.meaning c.args.custom.now) k (all_steps c.args.files.plan c.args.events.now) fates c.in_ok-ending.ending) c.in_ok-offers.ensures.cut c.in_ok-ending.ensures.world;
    })
    (work_short (g.O.RowOp.meaning c.args.custom.now) c.args.files.plan c.args.files.rows base (ticks_of_schedule c.args.files.plan c.args.events.now) fates _ c.in_ok-offers.ensures.cut c.replay_over.ensures.once c.replay_over.ensures.back c.in_ok-ending.ensures.comes.stands)
    c.text_of_end.ensures.stop

pub returns-clause-finishes : goal.returns-clause-finishes
returns-clause-finishes g c = λ free rounds few shuts_none.
    let here = subst (λ (k : Cut). HasRounds c.args.files.plan (rounds_needed c.args.files.plan (g.O.RowOp.meaning c.args.custom.now) k) (all_steps c.args.files.plan c.args.events.now)) (sym c.in_ok-offers.ensures.cut) rounds in
    let free_here = free_over (g.O.RowOp.meaning c.args.custom.now) c.args.files.plan c.args.files.rows (run_use (maker_use g.M.C.CellStore.tells g.M.C.CellStore.fault_count g.M.StoreMaker.holds g.M.StoreMaker.has_made g.M.StoreMaker.fault_count c.args.stores.now c.replay_over.new.stores) (g.N.IdMaker.tells c.args.ids.now)) c.replay_over.new.fates c.in_ok-offers.offers c.in_ok-offers.ensures.cut free in
    work_finishes _ _ _ c.in_ok-ending.ending c.text_of_end.result (c.in_ok-ending.ensures.finishes free_here none_rose here few shuts_none) c.text_of_end.ensures.stop

pub text_of_end-requires : goal.text_of_end-requires
text_of_end-requires g c =
    unfollowed _ (λ w. 0) _ _ c.replay_over.new.fates c.replay_over.result c.in_ok-ending.ending (λ w. refl) c.in_ok-ending.was c.replay_over.ensures.followed
