use Rattle.std.proofs.Common.{List, subst, sym, rules}
use Rattle.event_worlds.specs.attempt_fates.declared.fates.Attempt.{Attempt}
use Rattle.event_worlds.specs.Rounds.{ticks_in}
use Rattle.schedule_core.specs.Schedules.{all_steps}
use Rattle.stored_runs.proofs.Comings.{OfWorld, Ran, all_back, followed_is, followed_short, given_finishes, less_is, once_at_first, run_is, short_is, unfailed_by, world_is}
use Rattle.stored_runs.proofs.Lent.{Lent, idle_stand, on_err, still_made}
use Rattle.stored_runs.specs.Makers.{maker_use}
use Rattle.stored_runs.specs.StoredRuns.{StandAtCommits}
use Rattle.stored_runs.proofs.given.replay_over.Goals as goal

pub give_back-requires : goal.give_back-requires
give_back-requires g c =
    still_made g.M.StoreMaker.has_made c.make.new.stores c.in_ok-parts.parts c.replay-answer.new.parts
    c.close-ended.new.parts c.replay-answer.ensures.comes.tells.kept.plans c.close-ended.ensures.plans
    c.in_ok-parts.ensures.made

pub returns : goal.returns
returns g c =
    let lent : Lent g.M.C.CellStore.tells g.M.C.CellStore.fault_count g.M.StoreMaker.holds
    g.M.StoreMaker.fault_count c.args.plan.now c.args.stores.now c.make.new.stores
    c.give_back.new.stores c.in_ok-parts.parts c.replay-answer.new.parts c.close-ended.new.parts = record {
      planned = c.in_ok-parts.ensures.parts;
      began = c.in_ok-parts.ensures.began;
      no_fault = c.in_ok-parts.ensures.no_fault;
      others_out = c.in_ok-parts.ensures.others;
      same_count = c.in_ok-parts.ensures.same_count;
      kept = c.replay-answer.ensures.comes.tells.kept;
      read = c.close-ended.ensures.read;
      plans = c.close-ended.ensures.plans;
      back = c.give_back.ensures.back;
      others_back = c.give_back.ensures.others;
      counted = c.give_back.ensures.count;
      never_falls = c.give_back.ensures.never_falls;
    } in
    let run : Ran g.M.C.CellStore.tells g.M.C.CellStore.fault_count c.args.plan.now
    (g.O.RowOp.meaning c.args.custom.now) c.args.offers (g.N.IdMaker.tells c.args.ids.now)
    (ticks_in (all_steps c.args.plan.now c.args.events.now))
    c.replay-answer.result c.replay-answer.new.fates c.in_ok-parts.parts c.replay-answer.new.parts =
    record { told_so = c.replay-answer.ensures.comes.tells; drawn = c.replay-answer.ensures.drawn } in
    let world : OfWorld c.args.plan.now (g.O.RowOp.meaning c.args.custom.now) c.args.offers
    (g.N.IdMaker.tells c.args.ids.now) (all_steps c.args.plan.now c.args.events.now)
    c.replay-answer.result c.replay-answer.new.fates =
    record { by_some = c.replay-answer.ensures.comes.of_world; by_told = c.replay-answer.ensures.told } in
    let laws = c.laws_of_runs.ensures.parts c.args.plan.now (g.O.RowOp.meaning c.args.custom.now)
    c.args.offers in
    let worlds = c.laws_of_runs.ensures.worlds c.args.plan.now
    (g.O.RowOp.meaning c.args.custom.now) c.args.offers in
    let made = g.M.StoreMaker.has_made in
    let input = c.requires.input in
    let keeps = g.O.RowOp.keeps c.args.custom.now in
    let r = c.close-ended.result in
    let quiet = c.close-ended.ensures.quiet in
    let ends = g.met.M.StoreMaker.count_ends c.args.stores.now in
    let closes = c.close-ended.ensures.closes in
    record {
      comes = run_is made lent laws input run _ r closes quiet;
      short = short_is made lent laws input run _ r;
      once = c.replay-answer.ensures.comes.tells.once;
      back = all_back made lent;
      world = world_is made lent laws input run _ world r closes;
      followed =
          followed_is g.W.Follow.tells g.W.Follow.fault_count c.args.follow.now c.replay-answer.new.follow
          c.replay-answer.new.fates g.M.C.CellStore.tells g.M.C.CellStore.fault_count c.args.plan.now
          c.replay-answer.new.parts c.close-ended.new.parts c.replay-answer.result r closes c.replay-answer.ensures.followed;
      less = less_is made lent laws input run _ r closes c.replay-answer.ensures.less;
      finishes = λ free none rounds few opened.
          given_finishes made lent laws input run _ ends
          (unfailed_by g.W.Follow.tells g.W.Follow.fault_count c.args.follow.now
          c.replay-answer.new.follow c.replay-answer.new.fates c.replay-answer.result c.replay-answer.ensures.followed none)
          world worlds keeps r closes quiet free rounds few opened;
    }

pub returns-in_err-parts-clause-short : goal.returns-in_err-parts-clause-short
returns-in_err-parts-clause-short g c =
    on_err c.from_residual.result
    (subst
    (λ (fates : List Attempt).
    StandAtCommits c.args.plan.now (g.O.RowOp.meaning c.args.custom.now) c.args.offers
    (maker_use g.M.C.CellStore.tells g.M.C.CellStore.fault_count g.M.StoreMaker.holds
    g.M.StoreMaker.has_made g.M.StoreMaker.fault_count c.args.stores.now c.make.new.stores) fates)
    (sym c.requires.empty)
    (idle_stand g.M.C.CellStore.tells g.M.C.CellStore.fault_count g.M.StoreMaker.holds
    g.M.StoreMaker.has_made g.M.StoreMaker.fault_count c.args.plan.now c.args.stores.now
    c.make.new.stores (g.O.RowOp.meaning c.args.custom.now) c.args.offers
    c.in_err-parts.ensures.not_made))

pub returns-in_err-parts-clause-once : goal.returns-in_err-parts-clause-once
returns-in_err-parts-clause-once g c =
    once_at_first c.args.plan.now (g.O.RowOp.meaning c.args.custom.now) c.args.offers
    (c.laws_of_runs.ensures.worlds c.args.plan.now (g.O.RowOp.meaning c.args.custom.now)
    c.args.offers)
    c.requires.input c.args.fates.now c.requires.empty

pub returns-in_err-parts-clause-followed : goal.returns-in_err-parts-clause-followed
returns-in_err-parts-clause-followed g c =
    followed_short g.W.Follow.tells g.W.Follow.fault_count c.args.follow.now c.args.fates.now
    c.from_residual.result (search rules)
