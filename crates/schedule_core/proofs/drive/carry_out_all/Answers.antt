use Rattle.std.proofs.Common.{◌+◌, List, ◌++◌, ap, get_or, sym, take, ◌∙◌}
use Rattle.event_engine.specs.Engines.{cut_in, topology_in}
use Rattle.event_worlds.specs.Worlds.{Step}
use Rattle.schedule_core.specs.Schedules.{all_steps, steps_of}
use Rattle.schedule_core.proofs.Following.{followed-handed, followed-then, so_far-none, so_far-then}
use Rattle.schedule_core.proofs.Resting.{handed_on, on_err}
use Rattle.schedule_core.proofs.Keeping.{kept-then}
use Rattle.schedule_core.proofs.Looping.{driven-breaks, driven-none, driven-over, driven-then, driven-unfollowed, driven-wants, fits_there, once_there, parts_here, steps_begin, steps_more_as}
use Rattle.schedule_reader.specs.declared.event.Event.TheVariants.{Task}
use Rattle.schedule_core.specs.declared.fault.RunFault.TheVariants.{BadCell, Follow, Memory}
use Rattle.event_worlds.specs.topology_plan.Topology.{Topology}
use Rattle.schedule_core.proofs.drive.carry_out_all.Goals as goal

pub loop-event-init : goal.loop-event-init
loop-event-init g c =
    let old = c.args.engine.now in
    let parts = c.args.parts.now in
    let t = topology_in old in
    let custom = g.O.RowOp.meaning c.args.custom.now in
    let laws = c.laws_of_steps.ensures t custom (cut_in old) in
    record {
      driven = driven-none g.I.Ids.tells g.C.CellStore.tells g.C.CellStore.fault_count custom old parts laws c.requires.at_rest c.requires.parts;
      told = so_far-none g.W.Follow.tells g.W.Follow.takes g.W.Follow.fault_count old c.args.follow.now c.requires.takes;
    }

pub returns-then-is_over-clause-at_rest : goal.returns-then-is_over-clause-at_rest
returns-then-is_over-clause-at_rest g c = c.loop-event.invariant.driven.at_rest

pub returns-then-is_over-clause-same_run : goal.returns-then-is_over-clause-same_run
returns-then-is_over-clause-same_run g c = c.loop-event.invariant.driven.same_run

pub returns-then-is_over-clause-drives : goal.returns-then-is_over-clause-drives
returns-then-is_over-clause-drives g c =
    let old = c.args.engine.now in
    let parts = c.args.parts.now in
    let t = topology_in old in
    let custom = g.O.RowOp.meaning c.args.custom.now in
    let laws = c.laws_of_steps.ensures t custom (cut_in old) in
    let begun = steps_begin (steps_of t) c.args.events.now c.loop-event.event-index in
    driven-over g.I.Ids.tells g.C.CellStore.tells g.C.CellStore.fault_count custom old parts laws (all_steps t (take c.loop-event.event-index c.args.events.now)) c.loop-event.engine c.loop-event.parts c.loop-event.invariant.driven (all_steps t c.args.events.now) begun.0 begun.1 (sym c.is_over.ensures ∙ c.if-is_over.true)

pub carry_out-requires-clause-at_rest : goal.carry_out-requires-clause-at_rest
carry_out-requires-clause-at_rest g c = λ lives bounds. c.loop-event.invariant.driven.at_rest

pub carry_out-requires-clause-parts : goal.carry_out-requires-clause-parts
carry_out-requires-clause-parts g c = λ lives bounds.
    let old = c.args.engine.now in
    let parts = c.args.parts.now in
    let t = topology_in old in
    let custom = g.O.RowOp.meaning c.args.custom.now in
    let laws = c.laws_of_steps.ensures t custom (cut_in old) in
    parts_here g.I.Ids.tells g.C.CellStore.tells g.C.CellStore.fault_count custom old parts laws (all_steps t (take c.loop-event.event-index c.args.events.now)) c.loop-event.engine c.loop-event.parts c.loop-event.invariant.driven

pub carry_out-requires-clause-fits : goal.carry_out-requires-clause-fits
carry_out-requires-clause-fits g c = λ lives bounds.
    fits_there c.args.engine.now c.loop-event.engine c.loop-event.invariant.driven.same_run c.as_slice-event-items.result.now c.args.events.now c.loop-event.event-index (Task 0) c.as_slice-event-items.ensures c.requires.fit c.loop-event-test.true

pub returns-in_err-carry_out-clause-bad : goal.returns-in_err-carry_out-clause-bad
returns-in_err-carry_out-clause-bad g c =
    let old = c.args.engine.now in
    let parts = c.args.parts.now in
    let t = topology_in old in
    let custom = g.O.RowOp.meaning c.args.custom.now in
    let laws = c.laws_of_steps.ensures t custom (cut_in old) in
    λ key is.
    let was = handed_on c.from_residual.result c.carry_out.result c.in_err-carry_out.field-0.0 (BadCell key) c.from_residual.ensures.1 c.in_err-carry_out.was is in
    let begun = steps_begin (steps_of t) c.args.events.now (c.loop-event.event-index + 1) in
    let more = steps_more_as (steps_of t) c.as_slice-event-items.result.now c.args.events.now c.loop-event.event-index (Task 0) c.as_slice-event-items.ensures c.loop-event-test.true in
    driven-breaks g.I.Ids.tells g.C.CellStore.tells g.C.CellStore.fault_count custom old parts laws (all_steps t (take c.loop-event.event-index c.args.events.now)) c.loop-event.engine c.loop-event.parts c.loop-event.invariant.driven (all_steps t c.args.events.now) begun.0 (λ (u : Topology). steps_of u (get_or c.as_slice-event-items.result.now c.loop-event.event-index (Task 0))) key c.carry_out.new.engine c.carry_out.new.parts
    (begun.1 ∙ ap (λ (zs : List Step). zs ++ begun.0) more) (c.carry_out.ensures.bad key was)

pub returns-in_err-carry_out-clause-short : goal.returns-in_err-carry_out-clause-short
returns-in_err-carry_out-clause-short g c =
    let old = c.args.engine.now in
    let parts = c.args.parts.now in
    let t = topology_in old in
    let custom = g.O.RowOp.meaning c.args.custom.now in
    let laws = c.laws_of_steps.ensures t custom (cut_in old) in
    λ is.
    let was = handed_on c.from_residual.result c.carry_out.result c.in_err-carry_out.field-0.0 Memory c.from_residual.ensures.1 c.in_err-carry_out.was is in
    driven-wants g.I.Ids.tells g.C.CellStore.tells g.C.CellStore.fault_count custom old parts laws (all_steps t (take c.loop-event.event-index c.args.events.now)) c.loop-event.engine c.loop-event.parts c.loop-event.invariant.driven c.carry_out.new.engine.fates c.carry_out.new.parts
    (c.carry_out.ensures.short was)

pub returns-in_err-carry_out-clause-once : goal.returns-in_err-carry_out-clause-once
returns-in_err-carry_out-clause-once g c =
    on_err c.from_residual.result (once_there c.args.engine.now c.loop-event.engine c.loop-event.invariant.driven.same_run c.carry_out.new.engine c.in_err-carry_out.ensures.once)

pub loop-event-preserved : goal.loop-event-preserved
loop-event-preserved g c =
    let old = c.args.engine.now in
    let parts = c.args.parts.now in
    let t = topology_in old in
    let custom = g.O.RowOp.meaning c.args.custom.now in
    let laws = c.laws_of_steps.ensures t custom (cut_in old) in
    let now = c.in_ok-carry_out.ensures in
    record {
      driven = driven-then g.I.Ids.tells g.C.CellStore.tells g.C.CellStore.fault_count custom old parts laws (all_steps t (take c.loop-event.event-index c.args.events.now)) c.loop-event.engine c.loop-event.parts c.loop-event.invariant.driven (all_steps t (take (c.loop-event.event-index + 1) c.args.events.now)) (λ (u : Topology). steps_of u (get_or c.as_slice-event-items.result.now c.loop-event.event-index (Task 0))) c.carry_out.new.engine c.carry_out.new.parts (steps_more_as (steps_of t) c.as_slice-event-items.result.now c.args.events.now c.loop-event.event-index (Task 0) c.as_slice-event-items.ensures c.loop-event-test.true) now.at_rest now.same_run now.drives c.carry_out.ensures.kept;
      told = so_far-then g.W.Follow.tells g.W.Follow.takes g.W.Follow.fault_count old c.loop-event.engine c.carry_out.new.engine c.args.follow.now c.loop-event.follow c.carry_out.new.follow c.loop-event.invariant.told now.takes now.followed;
    }

pub returns-clause-at_rest : goal.returns-clause-at_rest
returns-clause-at_rest g c = c.loop-event.invariant.driven.at_rest

pub returns-clause-same_run : goal.returns-clause-same_run
returns-clause-same_run g c = c.loop-event.invariant.driven.same_run

pub returns-then-is_over-clause-kept : goal.returns-then-is_over-clause-kept
returns-then-is_over-clause-kept g c = c.loop-event.invariant.driven.kept

pub returns-in_err-carry_out-clause-kept : goal.returns-in_err-carry_out-clause-kept
returns-in_err-carry_out-clause-kept g c =
    kept-then g.C.CellStore.tells c.args.parts.now c.loop-event.parts c.carry_out.new.parts c.loop-event.invariant.driven.kept c.carry_out.ensures.kept

pub returns-clause-kept : goal.returns-clause-kept
returns-clause-kept g c = c.loop-event.invariant.driven.kept

-- ---- a follower

pub carry_out-requires-clause-takes : goal.carry_out-requires-clause-takes
carry_out-requires-clause-takes g c = λ lives bounds. c.loop-event.invariant.told.taken

pub returns-in_err-carry_out-clause-failed : goal.returns-in_err-carry_out-clause-failed
returns-in_err-carry_out-clause-failed g c =
    let old = c.args.engine.now in
    let parts = c.args.parts.now in
    let t = topology_in old in
    let custom = g.O.RowOp.meaning c.args.custom.now in
    let laws = c.laws_of_steps.ensures t custom (cut_in old) in
    λ txid is.
    let was = handed_on c.from_residual.result c.carry_out.result c.in_err-carry_out.field-0.0 (Follow txid) c.from_residual.ensures.1 c.in_err-carry_out.was is in
    let begun = steps_begin (steps_of t) c.args.events.now (c.loop-event.event-index + 1) in
    let more = steps_more_as (steps_of t) c.as_slice-event-items.result.now c.args.events.now c.loop-event.event-index (Task 0) c.as_slice-event-items.ensures c.loop-event-test.true in
    driven-unfollowed g.I.Ids.tells g.C.CellStore.tells g.C.CellStore.fault_count custom old parts laws (all_steps t (take c.loop-event.event-index c.args.events.now)) c.loop-event.engine c.loop-event.parts c.loop-event.invariant.driven (all_steps t c.args.events.now) begun.0 (λ (u : Topology). steps_of u (get_or c.as_slice-event-items.result.now c.loop-event.event-index (Task 0))) txid c.carry_out.new.engine c.carry_out.new.parts
    (begun.1 ∙ ap (λ (zs : List Step). zs ++ begun.0) more) (c.carry_out.ensures.failed txid was)

pub returns-in_err-carry_out-clause-followed : goal.returns-in_err-carry_out-clause-followed
returns-in_err-carry_out-clause-followed g c =
    let old = c.args.engine.now in
    let x = c.args.follow.now in
    followed-handed g.W.Follow.tells g.W.Follow.fault_count c.from_residual.result c.carry_out.result _ old.fates c.carry_out.new.engine.fates x c.carry_out.new.follow c.from_residual.ensures.1 c.in_err-carry_out.was
    (followed-then g.W.Follow.tells g.W.Follow.fault_count c.carry_out.result old.fates c.loop-event.engine.fates c.carry_out.new.engine.fates x c.loop-event.follow c.carry_out.new.follow c.loop-event.invariant.told.follows c.carry_out.ensures.followed)

pub returns-then-is_over-clause-takes : goal.returns-then-is_over-clause-takes
returns-then-is_over-clause-takes g c = c.loop-event.invariant.told.taken

pub returns-then-is_over-clause-followed : goal.returns-then-is_over-clause-followed
returns-then-is_over-clause-followed g c = c.loop-event.invariant.told.follows

pub returns-clause-takes : goal.returns-clause-takes
returns-clause-takes g c = c.loop-event.invariant.told.taken

pub returns-clause-followed : goal.returns-clause-followed
returns-clause-followed g c = c.loop-event.invariant.told.follows
