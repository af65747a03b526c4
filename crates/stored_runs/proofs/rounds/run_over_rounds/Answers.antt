use Rattle.std.proofs.Common.{List, Result, refl, subst, sym, rules}
use Rattle.event_worlds.specs.attempt_fates.declared.fates.Attempt.{Attempt}
use Rattle.event_worlds.specs.commit_order.declared.stop.Stop.{Stop}
use Rattle.schedule_core.specs.declared.ended.Ended.{Ended}
use Rattle.schedule_core.specs.Runs.{ended, ticks_between}
use Rattle.stored_runs.proofs.Comings.{OfWorld, Ran, all_back, by_rounds, follow_of, followed_is, followed_short, less_is, none_left, once_at_first, rounds_finish, run_is, short_is, unfailed_by, world_is}
use Rattle.stored_runs.proofs.Lent.{Lent, idle_stand, on_err, still_made}
use Rattle.stored_runs.specs.Makers.{maker_use}
use Rattle.stored_runs.specs.StoredRuns.{StandAtCommits}
use Rattle.stored_runs.specs.Closing.{Closes}
use Rattle.stored_runs.proofs.rounds.run_over_rounds.Goals as goal

pub give_back-requires : goal.give_back-requires
give_back-requires g c =
    still_made g.M.StoreMaker.has_made c.make.new.stores c.in_ok-parts.parts c.run_rounds-done.new.parts
    c.close-ended.new.parts c.run_rounds-done.ensures.comes.comes.tells.kept.plans c.close-ended.ensures.plans
    c.in_ok-parts.ensures.made

pub returns : goal.returns
returns g c =
    let lent : Lent g.M.C.CellStore.tells g.M.C.CellStore.fault_count g.M.StoreMaker.holds
    g.M.StoreMaker.fault_count c.args.plan.now c.args.stores.now c.make.new.stores
    c.give_back.new.stores c.in_ok-parts.parts c.run_rounds-done.new.parts c.close-ended.new.parts = record {
      planned = c.in_ok-parts.ensures.parts;
      began = c.in_ok-parts.ensures.began;
      no_fault = c.in_ok-parts.ensures.no_fault;
      others_out = c.in_ok-parts.ensures.others;
      same_count = c.in_ok-parts.ensures.same_count;
      kept = c.run_rounds-done.ensures.comes.comes.tells.kept;
      read = c.close-ended.ensures.read;
      plans = c.close-ended.ensures.plans;
      back = c.give_back.ensures.back;
      others_back = c.give_back.ensures.others;
      counted = c.give_back.ensures.count;
      never_falls = c.give_back.ensures.never_falls;
    } in
    let run : Ran g.M.C.CellStore.tells g.M.C.CellStore.fault_count c.args.plan.now
    (g.O.RowOp.meaning c.args.custom.now) c.args.offers (g.N.IdMaker.tells c.args.ids.now)
    (ticks_between (g.T.Ticks.handed_out c.args.ticks.now)
    (g.T.Ticks.handed_out c.run_rounds-done.new.ticks))
    (ended c.run_rounds-done.result) c.run_rounds-done.new.fates c.in_ok-parts.parts c.run_rounds-done.new.parts =
    record { told_so = c.run_rounds-done.ensures.comes.comes.tells; drawn = c.run_rounds-done.ensures.comes.drawn } in
    let world : OfWorld c.args.plan.now (g.O.RowOp.meaning c.args.custom.now) c.args.offers
    (g.N.IdMaker.tells c.args.ids.now) c.run_rounds-done.ensures.comes.steps
    (ended c.run_rounds-done.result) c.run_rounds-done.new.fates =
    record { by_some = c.run_rounds-done.ensures.comes.comes.of_world; by_told = c.run_rounds-done.ensures.comes.of_told } in
    let laws = c.laws_of_runs.ensures.parts c.args.plan.now (g.O.RowOp.meaning c.args.custom.now)
    c.args.offers in
    let worlds = c.laws_of_runs.ensures.worlds c.args.plan.now
    (g.O.RowOp.meaning c.args.custom.now) c.args.offers in
    let made = g.M.StoreMaker.has_made in
    let input = c.requires.input in
    let keeps = g.O.RowOp.keeps c.args.custom.now in
    let r = c.close-ended.result in
    let quiet = c.close-ended.ensures.quiet in
    let ends = g.met.M.StoreMaker.count_ends c.args.stores.now in
    let closes : Closes g.M.C.CellStore.tells g.M.C.CellStore.fault_count c.args.plan.now
    (ended c.run_rounds-done.result) c.run_rounds-done.new.parts c.close-ended.new.parts r =
    subst
    (λ (answer : Result Ended Stop).
    Closes g.M.C.CellStore.tells g.M.C.CellStore.fault_count c.args.plan.now answer
    c.run_rounds-done.new.parts c.close-ended.new.parts r)
    c.as_ended.ensures c.close-ended.ensures.closes in
    let asked = c.run_rounds-done.ensures.comes in
    record {
      comes = run_is made lent laws input run _ r closes quiet;
      short = short_is made lent laws input run _ r;
      goes_on =
          none_left g.M.C.CellStore.tells g.M.C.CellStore.fault_count c.args.plan.now
          c.run_rounds-done.new.parts c.close-ended.new.parts c.run_rounds-done.result r closes;
      once = c.run_rounds-done.ensures.comes.comes.tells.once;
      back = all_back made lent;
      world = by_rounds asked r (world_is made lent laws input run _ world r closes);
      followed =
          followed_is g.W.Follow.tells g.W.Follow.fault_count c.args.follow.now c.run_rounds-done.new.follow
          c.run_rounds-done.new.fates g.M.C.CellStore.tells g.M.C.CellStore.fault_count c.args.plan.now
          c.run_rounds-done.new.parts c.close-ended.new.parts (ended c.run_rounds-done.result) r closes c.run_rounds-done.ensures.followed;
      less =
          less_is made lent laws input run _ r closes
          (λ txid is. c.run_rounds-done.ensures.less txid (follow_of c.run_rounds-done.result txid is));
      finishes = λ to_come tells open_all free none few.
          rounds_finish made lent laws input run _ ends
          (unfailed_by g.W.Follow.tells g.W.Follow.fault_count c.args.follow.now
          c.run_rounds-done.new.follow c.run_rounds-done.new.fates (ended c.run_rounds-done.result) c.run_rounds-done.ensures.followed none)
          world worlds keeps c.run_rounds-done.result refl
          asked.answers asked.shuts to_come asked.rounds (asked.shut_none open_all) (asked.asked to_come tells) r closes quiet
          free few;
    }

pub returns-in_err-parts-clause-short : goal.returns-in_err-parts-clause-short
returns-in_err-parts-clause-short g c =
    on_err c.from_residual.result
    (subst
    (λ (fates : List Attempt).
    StandAtCommits c.args.plan.now (g.O.RowOp.meaning c.args.custom.now) c.args.offers
    (maker_use g.M.C.CellStore.tells g.M.C.CellStore.fault_count g.M.StoreMaker.holds
    g.M.StoreMaker.has_made g.M.StoreMaker.fault_count c.args.stores.now c.make.new.stores) fates)
    (sym c.requires.empty)
    (idle_stand g.M.C.CellStore.tells g.M.C.CellStore.fault_count g.M.StoreMaker.holds
    g.M.StoreMaker.has_made g.M.StoreMaker.fault_count c.args.plan.now c.args.stores.now
    c.make.new.stores (g.O.RowOp.meaning c.args.custom.now) c.args.offers
    c.in_err-parts.ensures.not_made))

pub returns-in_err-parts-clause-once : goal.returns-in_err-parts-clause-once
returns-in_err-parts-clause-once g c =
    once_at_first c.args.plan.now (g.O.RowOp.meaning c.args.custom.now) c.args.offers
    (c.laws_of_runs.ensures.worlds c.args.plan.now (g.O.RowOp.meaning c.args.custom.now)
    c.args.offers)
    c.requires.input c.args.fates.now c.requires.empty

pub returns-in_err-parts-clause-followed : goal.returns-in_err-parts-clause-followed
returns-in_err-parts-clause-followed g c =
    followed_short g.W.Follow.tells g.W.Follow.fault_count c.args.follow.now c.args.fates.now
    c.from_residual.result (search rules)
