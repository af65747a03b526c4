use Rattle.std.proofs.Common.{◌+◌, ◌≤◌, List, ◌++◌, ap, sym, ◌∙◌, arith}
use Rattle.event_engine.specs.Engines.{cut_in, topology_in}
use Rattle.event_worlds.specs.Worlds.{Step, round_steps, rounds_steps}
use Rattle.schedule_core.proofs.Following.{followed-handed, followed-then, so_far-none, so_far-then}
use Rattle.schedule_core.proofs.Resting.{handed_on, on_err}
use Rattle.schedule_core.proofs.Keeping.{kept-then}
use Rattle.schedule_core.proofs.Looping.{driven-breaks, driven-none, driven-over, driven-then, driven-unfollowed, driven-wants, once_there, parts_here, rounds_begin, rounds_more}
use Rattle.schedule_core.specs.declared.fault.RunFault.TheVariants.{BadCell, Follow, Memory}
use Rattle.schedule_core.proofs.drive.rounds.Goals as goal

pub loop-done-init : goal.loop-done-init
loop-done-init g c =
    let old = c.args.engine.now in
    let parts = c.args.parts.now in
    let t = topology_in old in
    let custom = g.O.RowOp.meaning c.args.custom.now in
    let laws = c.laws_of_steps.ensures t custom (cut_in old) in
    record {
      driven = driven-none g.I.Ids.tells g.C.CellStore.tells g.C.CellStore.fault_count custom old parts laws c.requires.at_rest c.requires.parts;
      told = so_far-none g.W.Follow.tells g.W.Follow.takes g.W.Follow.fault_count old c.args.follow.now c.requires.takes;
    }

pub returns-then-is_over-clause-at_rest : goal.returns-then-is_over-clause-at_rest
returns-then-is_over-clause-at_rest g c = c.loop-done.invariant.driven.at_rest

pub returns-then-is_over-clause-same_run : goal.returns-then-is_over-clause-same_run
returns-then-is_over-clause-same_run g c = c.loop-done.invariant.driven.same_run

pub returns-then-is_over-clause-drives : goal.returns-then-is_over-clause-drives
returns-then-is_over-clause-drives g c =
    let old = c.args.engine.now in
    let parts = c.args.parts.now in
    let t = topology_in old in
    let custom = g.O.RowOp.meaning c.args.custom.now in
    let laws = c.laws_of_steps.ensures t custom (cut_in old) in
    let begun = rounds_begin t c.loop-done.done c.args.count c.loop-done.auto.done-end in
    driven-over g.I.Ids.tells g.C.CellStore.tells g.C.CellStore.fault_count custom old parts laws (rounds_steps t c.loop-done.done) c.loop-done.engine c.loop-done.parts c.loop-done.invariant.driven (rounds_steps t c.args.count) begun.0 begun.1 (sym c.is_over.ensures ∙ c.if-is_over.true)

pub round-requires-clause-at_rest : goal.round-requires-clause-at_rest
round-requires-clause-at_rest g c = λ lives bounds. c.loop-done.invariant.driven.at_rest

pub round-requires-clause-parts : goal.round-requires-clause-parts
round-requires-clause-parts g c = λ lives bounds.
    let old = c.args.engine.now in
    let parts = c.args.parts.now in
    let t = topology_in old in
    let custom = g.O.RowOp.meaning c.args.custom.now in
    let laws = c.laws_of_steps.ensures t custom (cut_in old) in
    parts_here g.I.Ids.tells g.C.CellStore.tells g.C.CellStore.fault_count custom old parts laws (rounds_steps t c.loop-done.done) c.loop-done.engine c.loop-done.parts c.loop-done.invariant.driven

pub returns-in_err-round-clause-bad : goal.returns-in_err-round-clause-bad
returns-in_err-round-clause-bad g c =
    let old = c.args.engine.now in
    let parts = c.args.parts.now in
    let t = topology_in old in
    let custom = g.O.RowOp.meaning c.args.custom.now in
    let laws = c.laws_of_steps.ensures t custom (cut_in old) in
    λ key is.
    let was = handed_on c.from_residual.result c.round.result c.in_err-round.field-0.0 (BadCell key) c.from_residual.ensures.1 c.in_err-round.was is in
    let below : c.loop-done.done + 1 ≤ c.args.count = omega arith in
    let begun = rounds_begin t (c.loop-done.done + 1) c.args.count below in
    driven-breaks g.I.Ids.tells g.C.CellStore.tells g.C.CellStore.fault_count custom old parts laws (rounds_steps t c.loop-done.done) c.loop-done.engine c.loop-done.parts c.loop-done.invariant.driven (rounds_steps t c.args.count) begun.0 round_steps key c.round.new.engine c.round.new.parts
    (begun.1 ∙ ap (λ (zs : List Step). zs ++ begun.0) (rounds_more t c.loop-done.done)) (c.round.ensures.bad key was)

pub returns-in_err-round-clause-short : goal.returns-in_err-round-clause-short
returns-in_err-round-clause-short g c =
    let old = c.args.engine.now in
    let parts = c.args.parts.now in
    let t = topology_in old in
    let custom = g.O.RowOp.meaning c.args.custom.now in
    let laws = c.laws_of_steps.ensures t custom (cut_in old) in
    λ is.
    let was = handed_on c.from_residual.result c.round.result c.in_err-round.field-0.0 Memory c.from_residual.ensures.1 c.in_err-round.was is in
    driven-wants g.I.Ids.tells g.C.CellStore.tells g.C.CellStore.fault_count custom old parts laws (rounds_steps t c.loop-done.done) c.loop-done.engine c.loop-done.parts c.loop-done.invariant.driven c.round.new.engine.fates c.round.new.parts (c.round.ensures.short was)

pub returns-in_err-round-clause-once : goal.returns-in_err-round-clause-once
returns-in_err-round-clause-once g c =
    on_err c.from_residual.result (once_there c.args.engine.now c.loop-done.engine c.loop-done.invariant.driven.same_run c.round.new.engine c.in_err-round.ensures.once)

pub loop-done-preserved : goal.loop-done-preserved
loop-done-preserved g c =
    let old = c.args.engine.now in
    let parts = c.args.parts.now in
    let t = topology_in old in
    let custom = g.O.RowOp.meaning c.args.custom.now in
    let laws = c.laws_of_steps.ensures t custom (cut_in old) in
    let now = c.in_ok-round.ensures in
    record {
      driven = driven-then g.I.Ids.tells g.C.CellStore.tells g.C.CellStore.fault_count custom old parts laws (rounds_steps t c.loop-done.done) c.loop-done.engine c.loop-done.parts c.loop-done.invariant.driven (rounds_steps t (c.loop-done.done + 1)) (round_steps) c.round.new.engine c.round.new.parts (rounds_more t c.loop-done.done) now.at_rest now.same_run now.drives c.round.ensures.kept;
      told = so_far-then g.W.Follow.tells g.W.Follow.takes g.W.Follow.fault_count old c.loop-done.engine c.round.new.engine c.args.follow.now c.loop-done.follow c.round.new.follow c.loop-done.invariant.told now.takes now.followed;
    }

pub returns-clause-at_rest : goal.returns-clause-at_rest
returns-clause-at_rest g c = c.loop-done.invariant.driven.at_rest

pub returns-clause-same_run : goal.returns-clause-same_run
returns-clause-same_run g c = c.loop-done.invariant.driven.same_run

pub returns-then-is_over-clause-kept : goal.returns-then-is_over-clause-kept
returns-then-is_over-clause-kept g c = c.loop-done.invariant.driven.kept

pub returns-in_err-round-clause-kept : goal.returns-in_err-round-clause-kept
returns-in_err-round-clause-kept g c =
    kept-then g.C.CellStore.tells c.args.parts.now c.loop-done.parts c.round.new.parts c.loop-done.invariant.driven.kept c.round.ensures.kept

pub returns-clause-kept : goal.returns-clause-kept
returns-clause-kept g c = c.loop-done.invariant.driven.kept

-- ---- a follower

pub round-requires-clause-takes : goal.round-requires-clause-takes
round-requires-clause-takes g c = λ lives bounds. c.loop-done.invariant.told.taken

pub returns-in_err-round-clause-failed : goal.returns-in_err-round-clause-failed
returns-in_err-round-clause-failed g c =
    let old = c.args.engine.now in
    let parts = c.args.parts.now in
    let t = topology_in old in
    let custom = g.O.RowOp.meaning c.args.custom.now in
    let laws = c.laws_of_steps.ensures t custom (cut_in old) in
    λ txid is.
    let was = handed_on c.from_residual.result c.round.result c.in_err-round.field-0.0 (Follow txid) c.from_residual.ensures.1 c.in_err-round.was is in
    let below : c.loop-done.done + 1 ≤ c.args.count = omega arith in
    let begun = rounds_begin t (c.loop-done.done + 1) c.args.count below in
    driven-unfollowed g.I.Ids.tells g.C.CellStore.tells g.C.CellStore.fault_count custom old parts laws (rounds_steps t c.loop-done.done) c.loop-done.engine c.loop-done.parts c.loop-done.invariant.driven (rounds_steps t c.args.count) begun.0 round_steps txid c.round.new.engine c.round.new.parts
    (begun.1 ∙ ap (λ (zs : List Step). zs ++ begun.0) (rounds_more t c.loop-done.done)) (c.round.ensures.failed txid was)

pub returns-in_err-round-clause-followed : goal.returns-in_err-round-clause-followed
returns-in_err-round-clause-followed g c =
    let old = c.args.engine.now in
    let x = c.args.follow.now in
    followed-handed g.W.Follow.tells g.W.Follow.fault_count c.from_residual.result c.round.result _ old.fates c.round.new.engine.fates x c.round.new.follow c.from_residual.ensures.1 c.in_err-round.was
    (followed-then g.W.Follow.tells g.W.Follow.fault_count c.round.result old.fates c.loop-done.engine.fates c.round.new.engine.fates x c.loop-done.follow c.round.new.follow c.loop-done.invariant.told.follows c.round.ensures.followed)

pub returns-then-is_over-clause-takes : goal.returns-then-is_over-clause-takes
returns-then-is_over-clause-takes g c = c.loop-done.invariant.told.taken

pub returns-then-is_over-clause-followed : goal.returns-then-is_over-clause-followed
returns-then-is_over-clause-followed g c = c.loop-done.invariant.told.follows

pub returns-clause-takes : goal.returns-clause-takes
returns-clause-takes g c = c.loop-done.invariant.told.taken

pub returns-clause-followed : goal.returns-clause-followed
returns-clause-followed g c = c.loop-done.invariant.told.follows
