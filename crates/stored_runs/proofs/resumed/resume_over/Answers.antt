use Rattle.std.proofs.Common.{List, subst, sym, rules}
use Rattle.event_worlds.specs.attempt_fates.declared.fates.Attempt.{Attempt}
use Rattle.event_worlds.specs.state_parts.Makers.{AreMade}
use Rattle.stored_runs.proofs.Moved.{StandStill}
use Rattle.stored_runs.proofs.Resuming.{Out, all_if, back_of, comes_of, goes_on_of, less_of, looked_of, once_of, short_of}
use Rattle.schedule_core.specs.Runs.{ticks_between}
use Rattle.stored_runs.proofs.Comings.{followed_short, once_at_first}
use Rattle.stored_runs.proofs.Lent.{idle_stand, on_err}
use Rattle.stored_runs.specs.Makers.{maker_use}
use Rattle.stored_runs.specs.StoredRuns.{StandAtCommits}
use Rattle.stored_runs.proofs.resumed.resume_over.Goals as goal

pub give_back-requires : goal.give_back-requires
give_back-requires g c =
    subst (AreMade g.M.StoreMaker.has_made c.make.new.stores)
    (sym c.resume_parts-ended.ensures.plans) c.in_ok-parts.ensures.made

pub returns : goal.returns
returns g c =
    let tells = g.M.C.CellStore.tells in
    let count = g.M.C.CellStore.fault_count in
    let holds = g.M.StoreMaker.holds in
    let made = g.M.StoreMaker.has_made in
    let faults = g.M.StoreMaker.fault_count in
    let t = c.args.plan.now in
    let custom = g.O.RowOp.meaning c.args.custom.now in
    let told = g.N.IdMaker.tells c.args.ids.now in
    let ticks = ticks_between (g.T.Ticks.handed_out c.args.ticks.now)
    (g.T.Ticks.handed_out c.resume_parts-ended.new.ticks) in
    let fates = c.resume_parts-ended.new.fates in
    let r = c.resume_parts-ended.result in
    let is = c.resume_parts-ended.ensures.resumes in
    let out : Out g.M.C.CellStore.tells g.M.C.CellStore.fault_count g.M.StoreMaker.holds
    g.M.StoreMaker.fault_count c.args.plan.now c.args.stores.now c.make.new.stores
    c.give_back.new.stores c.in_ok-parts.parts c.resume_parts-ended.new.parts = record {
      planned = c.in_ok-parts.ensures.parts;
      began = c.in_ok-parts.ensures.began;
      no_fault = c.in_ok-parts.ensures.no_fault;
      others_out = c.in_ok-parts.ensures.others;
      same_count = c.in_ok-parts.ensures.same_count;
      back = c.give_back.ensures.back;
      others_back = c.give_back.ensures.others;
      counted = c.give_back.ensures.count;
      never_falls = c.give_back.ensures.never_falls;
    } in
    let still : StandStill g.M.C.CellStore.tells g.M.C.CellStore.fault_count = record {
      stand = c.parts_with_the_same_cells_stand.ensures.stand;
      are_at = c.parts_with_the_same_cells_stand.ensures.are_at;
    } in
    let laws = c.laws_of_runs.ensures.parts t custom c.args.offers in
    let worlds = c.laws_of_runs.ensures.worlds t custom c.args.offers in
    let input = c.requires.input in
    let comes = comes_of made out laws worlds still input told ticks fates _ r is in
    let goes_on = goes_on_of made out laws worlds still input told ticks fates _ r is in
    record {
      comes = comes;
      goes_on = goes_on;
      once = once_of made out laws worlds still input told ticks fates _ r is;
      back = back_of made out laws worlds still input told ticks fates _ r is;
      short = short_of made out laws worlds still input told ticks fates _ r is;
      looked = looked_of made out laws worlds still input told ticks fates _ r is;
      followed = c.resume_parts-ended.ensures.followed;
      less = less_of made out laws worlds still input told ticks fates _ r is;
      finishes = λ to_come tells_ticks open_all free none few.
          all_if _ tells count holds made faults t custom c.args.offers c.args.stores.now
          c.give_back.new.stores told ticks fates g.W.Follow.tells g.W.Follow.fault_count
          c.args.follow.now c.resume_parts-ended.new.follow
          (g.met.M.StoreMaker.count_ends c.args.stores.now) free r comes goes_on
          c.resume_parts-ended.ensures.followed none
          (λ no_failure.
          c.resume_parts-ended.ensures.finishes to_come tells_ticks open_all free.can_finish
          free.no_coincidence no_failure few);
    }

pub returns-in_err-parts-clause-short : goal.returns-in_err-parts-clause-short
returns-in_err-parts-clause-short g c =
    on_err c.from_residual.result
    (subst
    (λ (fates : List Attempt).
    StandAtCommits c.args.plan.now (g.O.RowOp.meaning c.args.custom.now) c.args.offers
    (maker_use g.M.C.CellStore.tells g.M.C.CellStore.fault_count g.M.StoreMaker.holds
    g.M.StoreMaker.has_made g.M.StoreMaker.fault_count c.args.stores.now c.make.new.stores) fates)
    (sym c.requires.empty)
    (idle_stand g.M.C.CellStore.tells g.M.C.CellStore.fault_count g.M.StoreMaker.holds
    g.M.StoreMaker.has_made g.M.StoreMaker.fault_count c.args.plan.now c.args.stores.now
    c.make.new.stores (g.O.RowOp.meaning c.args.custom.now) c.args.offers
    c.in_err-parts.ensures.not_made))

pub returns-in_err-parts-clause-once : goal.returns-in_err-parts-clause-once
returns-in_err-parts-clause-once g c =
    once_at_first c.args.plan.now (g.O.RowOp.meaning c.args.custom.now) c.args.offers
    (c.laws_of_runs.ensures.worlds c.args.plan.now (g.O.RowOp.meaning c.args.custom.now)
    c.args.offers)
    c.requires.input c.args.fates.now c.requires.empty

pub returns-in_err-parts-clause-followed : goal.returns-in_err-parts-clause-followed
returns-in_err-parts-clause-followed g c =
    followed_short g.W.Follow.tells g.W.Follow.fault_count c.args.follow.now c.args.fates.now
    c.from_residual.result (search rules)

pub returns-in_err-parts-clause-looked : goal.returns-in_err-parts-clause-looked
returns-in_err-parts-clause-looked g c = λ some. absurd (some c.requires.empty)
