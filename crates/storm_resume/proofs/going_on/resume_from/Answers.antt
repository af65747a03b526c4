use Rattle.std.proofs.Common.{◌≡◌, ◌<◌, ◌+◌, ℕ, List, Ok, length, refl, rules, ap, subst, sum, sym, ◌∙◌}
use Rattle.event_worlds.specs.Rounds.{rounds_needed}
use Rattle.event_worlds.specs.attempt_fates.declared.fates.Attempt.{Attempt}
use Rattle.event_worlds.specs.attempt_fates.Fates.{IsOnce, committed}
use Rattle.event_worlds.specs.commit_turns.Turns.{last_tick}
use Rattle.event_worlds.specs.storm_values.Counts.{Rose}
use Rattle.event_worlds.specs.taken_records.Cuts.{Cut}
use Rattle.storm_answers.specs.Outside.{RunUse, run_use, ticks_use}
use Rattle.storm_answers.specs.Runs.{ticks_of_run}
use Rattle.storm_answers.specs.schedule_core.Runs.{first_answers}
use Rattle.storm_answers.specs.stored_runs.Makers.{maker_use}
use Rattle.storm_answers.specs.stored_runs.StoredRuns.{NothingIsInTheWay}
use Rattle.storm_resume.proofs.Keepings.{Kept, kept_of, last_is, not_fallen}
use Rattle.storm_resume.proofs.Reporting.{Went, short_or, work_done, work_finishes, work_stops}
use Rattle.storm_resume.specs.Keeping.{KeeperUse, keeper_use}
use Rattle.storm_resume.specs.Resume.{GoesOn, cut_after}
use Rattle.storm_resume.specs.steps.Going.{last_txid}
use Rattle.storm_resume.proofs.going_on.resume_from.Goals as goal

pub returns-clause-report : goal.returns-clause-report
returns-clause-report g c =
    let custom = g.O.RowOp.meaning c.args.custom.now in
    let fates : List Attempt = c.resume_over.new.fates in
    let base : RunUse = (run_use (maker_use g.M.C.CellStore.tells g.M.C.CellStore.fault_count g.M.StoreMaker.holds g.M.StoreMaker.has_made g.M.StoreMaker.fault_count c.args.stores.now c.resume_over.new.stores) (g.N.IdMaker.tells c.args.ids.now)) in
    let keeper : KeeperUse = keeper_use g.P.Keeper.holds g.P.Keeper.fault_count c.args.keeper.now.keeper c.resume_over.new.follow.keeper in
    let ticks : ℕ = ticks_of_run (ticks_use g.T.Ticks.handed_out g.T.Ticks.tells c.args.ticks.now c.resume_over.new.ticks) in
    let goes_on : GoesOn c.args.plan.now c.args.rows keeper c.args.start = record { was_kept = c.requires.kept; of_input = c.requires.of_input } in
    let many : c.len-records.result ≡ length c.args.rows = search rules in
    let at : c.in_ok-offers.offers.start ≡ c.args.start.txid = ap (λ (k : Cut). k.start) c.in_ok-offers.ensures.cut in
    let kept : Kept keeper c.args.start fates c.in_ok-ending.ending =
    kept_of g.P.Keeper.holds g.P.Keeper.fault_count c.args.keeper.now.keeper c.start.new.self c.resume_over.new.follow _ _ (λ w. w.keeper) (λ w cs told. told.keeps) (λ w. refl) c.start.ensures.keeper c.args.start
    (λ held holding. c.start.ensures.told held holding (c.requires.kept held holding)) c.in_ok-offers.offers at last_tick fates c.resume_over.result c.in_ok-ending.ending c.in_ok-ending.was c.resume_over.ensures.once c.resume_over.ensures.followed in
    let went : Went custom c.args.plan.now base ticks fates c.in_ok-ending.ending (cut_after c.args.plan.now c.args.rows c.args.start) =
    subst (λ (k : Cut). Went custom c.args.plan.now base ticks fates c.in_ok-ending.ending k) c.in_ok-offers.ensures.cut
    (record {
      input = c.in_ok-offers.ensures.input;
      run = c.in_ok-ending.ensures.comes;
      looked = c.resume_over.ensures.looked;
      back = c.resume_over.ensures.back;
      less = λ txid is. c.resume_over.ensures.less txid (c.in_ok-ending.was ∙ ap Ok is);
    }) in
    let last_here : c.last_txid-batches.result ≡ last_txid c.args.start.txid fates = search rules in
    let batches : c.last_txid-batches.result ≡ c.args.start.txid + length (committed fates) =
    last_here ∙ last_is c.in_ok-offers.offers c.args.start.txid last_tick fates at c.resume_over.ensures.once in
    work_done custom c.args.plan.now c.args.rows c.args.start base keeper ticks fates goes_on c.len-records.result many c.last_txid-batches.result batches c.in_ok-ending.ending c.text_of_resume.result c.text_of_resume.ensures.all c.text_of_resume.ensures.done went kept

pub returns-clause-stop : goal.returns-clause-stop
returns-clause-stop g c =
    let custom = g.O.RowOp.meaning c.args.custom.now in
    let fates : List Attempt = c.resume_over.new.fates in
    let base : RunUse = (run_use (maker_use g.M.C.CellStore.tells g.M.C.CellStore.fault_count g.M.StoreMaker.holds g.M.StoreMaker.has_made g.M.StoreMaker.fault_count c.args.stores.now c.resume_over.new.stores) (g.N.IdMaker.tells c.args.ids.now)) in
    let keeper : KeeperUse = keeper_use g.P.Keeper.holds g.P.Keeper.fault_count c.args.keeper.now.keeper c.resume_over.new.follow.keeper in
    let ticks : ℕ = ticks_of_run (ticks_use g.T.Ticks.handed_out g.T.Ticks.tells c.args.ticks.now c.resume_over.new.ticks) in
    let goes_on : GoesOn c.args.plan.now c.args.rows keeper c.args.start = record { was_kept = c.requires.kept; of_input = c.requires.of_input } in
    let many : c.len-records.result ≡ length c.args.rows = search rules in
    let at : c.in_ok-offers.offers.start ≡ c.args.start.txid = ap (λ (k : Cut). k.start) c.in_ok-offers.ensures.cut in
    let kept : Kept keeper c.args.start fates c.in_ok-ending.ending =
    kept_of g.P.Keeper.holds g.P.Keeper.fault_count c.args.keeper.now.keeper c.start.new.self c.resume_over.new.follow _ _ (λ w. w.keeper) (λ w cs told. told.keeps) (λ w. refl) c.start.ensures.keeper c.args.start
    (λ held holding. c.start.ensures.told held holding (c.requires.kept held holding)) c.in_ok-offers.offers at last_tick fates c.resume_over.result c.in_ok-ending.ending c.in_ok-ending.was c.resume_over.ensures.once c.resume_over.ensures.followed in
    let went : Went custom c.args.plan.now base ticks fates c.in_ok-ending.ending (cut_after c.args.plan.now c.args.rows c.args.start) =
    subst (λ (k : Cut). Went custom c.args.plan.now base ticks fates c.in_ok-ending.ending k) c.in_ok-offers.ensures.cut
    (record {
      input = c.in_ok-offers.ensures.input;
      run = c.in_ok-ending.ensures.comes;
      looked = c.resume_over.ensures.looked;
      back = c.resume_over.ensures.back;
      less = λ txid is. c.resume_over.ensures.less txid (c.in_ok-ending.was ∙ ap Ok is);
    }) in
    work_stops custom c.args.plan.now c.args.rows c.args.start base keeper ticks fates goes_on c.len-records.result many c.last_txid-batches.result c.in_ok-ending.ending c.text_of_resume.result
    (λ k is. c.resume_over.ensures.goes_on k (c.in_ok-ending.was ∙ ap Ok is))
    (short_or custom c.args.plan.now c.args.rows c.args.start base keeper ticks fates goes_on c.in_ok-ending.ending (subst (λ (k : Cut). IsOnce k last_tick fates) c.in_ok-offers.ensures.cut c.resume_over.ensures.once) went kept)
    c.text_of_resume.ensures.stop c.text_of_resume.ensures.told went kept

pub returns-clause-finishes : goal.returns-clause-finishes
returns-clause-finishes g c = λ to_come told all_open free fine few.
    let custom = g.O.RowOp.meaning c.args.custom.now in
    let fates : List Attempt = c.resume_over.new.fates in
    let base : RunUse = (run_use (maker_use g.M.C.CellStore.tells g.M.C.CellStore.fault_count g.M.StoreMaker.holds g.M.StoreMaker.has_made g.M.StoreMaker.fault_count c.args.stores.now c.resume_over.new.stores) (g.N.IdMaker.tells c.args.ids.now)) in
    let keeper : KeeperUse = keeper_use g.P.Keeper.holds g.P.Keeper.fault_count c.args.keeper.now.keeper c.resume_over.new.follow.keeper in
    let ticks : ℕ = ticks_of_run (ticks_use g.T.Ticks.handed_out g.T.Ticks.tells c.args.ticks.now c.resume_over.new.ticks) in
    let goes_on : GoesOn c.args.plan.now c.args.rows keeper c.args.start = record { was_kept = c.requires.kept; of_input = c.requires.of_input } in
    let many : c.len-records.result ≡ length c.args.rows = search rules in
    let at : c.in_ok-offers.offers.start ≡ c.args.start.txid = ap (λ (k : Cut). k.start) c.in_ok-offers.ensures.cut in
    let kept : Kept keeper c.args.start fates c.in_ok-ending.ending =
    kept_of g.P.Keeper.holds g.P.Keeper.fault_count c.args.keeper.now.keeper c.start.new.self c.resume_over.new.follow _ _ (λ w. w.keeper) (λ w cs told. told.keeps) (λ w. refl) c.start.ensures.keeper c.args.start
    (λ held holding. c.start.ensures.told held holding (c.requires.kept held holding)) c.in_ok-offers.offers at last_tick fates c.resume_over.result c.in_ok-ending.ending c.in_ok-ending.was c.resume_over.ensures.once c.resume_over.ensures.followed in
    let went : Went custom c.args.plan.now base ticks fates c.in_ok-ending.ending (cut_after c.args.plan.now c.args.rows c.args.start) =
    subst (λ (k : Cut). Went custom c.args.plan.now base ticks fates c.in_ok-ending.ending k) c.in_ok-offers.ensures.cut
    (record {
      input = c.in_ok-offers.ensures.input;
      run = c.in_ok-ending.ensures.comes;
      looked = c.resume_over.ensures.looked;
      back = c.resume_over.ensures.back;
      less = λ txid is. c.resume_over.ensures.less txid (c.in_ok-ending.was ∙ ap Ok is);
    }) in
    let free_here = subst (λ (k : Cut). NothingIsInTheWay c.args.plan.now custom k base.stores fates) (sym c.in_ok-offers.ensures.cut) free in
    let few_here = subst (λ (k : Cut). sum (first_answers (rounds_needed c.args.plan.now custom k) to_come) < c.args.plan.now.buckets) (sym c.in_ok-offers.ensures.cut) few in
    work_finishes custom c.args.plan.now c.args.rows c.args.start base keeper ticks fates goes_on c.len-records.result c.last_txid-batches.result c.in_ok-ending.ending c.text_of_resume.result
    (c.in_ok-ending.ensures.finishes to_come told all_open free_here (λ rose. fine (subst (λ p. Rose (g.P.Keeper.fault_count p) (g.P.Keeper.fault_count c.resume_over.new.follow.keeper)) c.start.ensures.keeper rose)) few_here)
    c.text_of_resume.ensures.stop

pub returns-clause-keep_faults : goal.returns-clause-keep_faults
returns-clause-keep_faults g c =
    let custom = g.O.RowOp.meaning c.args.custom.now in
    let fates : List Attempt = c.resume_over.new.fates in
    let base : RunUse = (run_use (maker_use g.M.C.CellStore.tells g.M.C.CellStore.fault_count g.M.StoreMaker.holds g.M.StoreMaker.has_made g.M.StoreMaker.fault_count c.args.stores.now c.resume_over.new.stores) (g.N.IdMaker.tells c.args.ids.now)) in
    let keeper : KeeperUse = keeper_use g.P.Keeper.holds g.P.Keeper.fault_count c.args.keeper.now.keeper c.resume_over.new.follow.keeper in
    let ticks : ℕ = ticks_of_run (ticks_use g.T.Ticks.handed_out g.T.Ticks.tells c.args.ticks.now c.resume_over.new.ticks) in
    let goes_on : GoesOn c.args.plan.now c.args.rows keeper c.args.start = record { was_kept = c.requires.kept; of_input = c.requires.of_input } in
    let many : c.len-records.result ≡ length c.args.rows = search rules in
    let at : c.in_ok-offers.offers.start ≡ c.args.start.txid = ap (λ (k : Cut). k.start) c.in_ok-offers.ensures.cut in
    let kept : Kept keeper c.args.start fates c.in_ok-ending.ending =
    kept_of g.P.Keeper.holds g.P.Keeper.fault_count c.args.keeper.now.keeper c.start.new.self c.resume_over.new.follow _ _ (λ w. w.keeper) (λ w cs told. told.keeps) (λ w. refl) c.start.ensures.keeper c.args.start
    (λ held holding. c.start.ensures.told held holding (c.requires.kept held holding)) c.in_ok-offers.offers at last_tick fates c.resume_over.result c.in_ok-ending.ending c.in_ok-ending.was c.resume_over.ensures.once c.resume_over.ensures.followed in
    let went : Went custom c.args.plan.now base ticks fates c.in_ok-ending.ending (cut_after c.args.plan.now c.args.rows c.args.start) =
    subst (λ (k : Cut). Went custom c.args.plan.now base ticks fates c.in_ok-ending.ending k) c.in_ok-offers.ensures.cut
    (record {
      input = c.in_ok-offers.ensures.input;
      run = c.in_ok-ending.ensures.comes;
      looked = c.resume_over.ensures.looked;
      back = c.resume_over.ensures.back;
      less = λ txid is. c.resume_over.ensures.less txid (c.in_ok-ending.was ∙ ap Ok is);
    }) in
    not_fallen keeper c.args.start fates c.in_ok-ending.ending (g.met.P.Keeper.count_ends c.args.keeper.now.keeper) kept
