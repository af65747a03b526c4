use Rattle.std.proofs.Common.{refl}
use Rattle.event_engine.specs.Engines.{cut_in, topology_in}
use Rattle.schedule_core.proofs.Boosting.{opens_behind}
use Rattle.schedule_core.proofs.Following.{followed-handed, followed-short, followed-then, follows-same, follows-then, so_far-none, so_far-then, taken_still}
use Rattle.schedule_core.proofs.Keeping.{kept-then}
use Rattle.schedule_core.proofs.Resting.{handed_on}
use Rattle.schedule_core.proofs.RunByRounds.{turned-bad, turned-short, turning-none, turning-then}
use Rattle.schedule_core.specs.declared.fault.RunFault.TheVariants as fault
use Rattle.event_worlds.specs.topology_plan.Topology.{Topology}
use Rattle.event_worlds.specs.taken_records.Cuts.{Cut}
use Rattle.schedule_core.proofs.rounds.rounds_until_over.Goals as goal

pub loop-init : goal.loop-init
loop-init g c =
    let custom = g.O.RowOp.meaning c.args.custom.now in
    record {
      turning = turning-none g.I.Ids.tells g.C.CellStore.tells g.C.CellStore.fault_count g.T.Ticks.handed_out g.T.Ticks.tells g.V.Avail.tells custom c.args.engine.now c.args.parts.now c.args.ticks.now c.args.avail.now (λ (t : Topology) (cut : Cut). c.laws_of_steps.ensures t custom cut) c.requires.at_rest c.requires.parts;
      told = so_far-none g.W.Follow.tells g.W.Follow.takes g.W.Follow.fault_count c.args.engine.now c.args.follow.now c.requires.takes;
    }

pub loop-preserved : goal.loop-preserved
loop-preserved g c =
    let custom = g.O.RowOp.meaning c.args.custom.now in
    let opened = c.in_ok-open_shut.ensures in
    let mid = c.loop.engine in
    let behind = opens_behind g.I.Ids.tells (topology_in mid) custom (cut_in mid) c.shut-shut.result mid c.open_shut.new.engine opened.opens in
    let asked = c.passed-passed.ensures in
    let shut = c.shut-shut.ensures in
    let closed = c.in_ok-close_round.ensures in
    record {
      turning =
          turning-then g.I.Ids.tells g.C.CellStore.tells g.C.CellStore.fault_count g.T.Ticks.handed_out g.T.Ticks.tells g.V.Avail.tells custom c.args.engine.now c.args.parts.now c.args.ticks.now c.args.avail.now (λ (t : Topology) (cut : Cut). c.laws_of_steps.ensures t custom cut) c.loop.engine c.loop.parts c.loop.ticks c.loop.avail c.loop.invariant.turning
          c.open_shut.new.engine c.shut-shut.result c.shut-shut.new.self shut.told shut.tells_the_rest c.passed-passed.result c.passed-passed.new.self behind.events behind.work opened.same_run behind.goes c.open_shut.ensures.still asked.counted asked.told asked.tells_the_rest
          c.close_round.new.engine c.close_round.new.parts closed.at_rest closed.same_run closed.drives c.close_round.ensures.kept;
      told =
          so_far-then g.W.Follow.tells g.W.Follow.takes g.W.Follow.fault_count c.args.engine.now mid c.close_round.new.engine c.args.follow.now c.loop.follow c.close_round.new.follow c.loop.invariant.told closed.takes
          (follows-then g.W.Follow.tells g.W.Follow.fault_count mid.fates c.open_shut.new.engine.fates c.close_round.new.engine.fates c.loop.follow c.loop.follow c.close_round.new.follow (follows-same g.W.Follow.tells g.W.Follow.fault_count mid.fates c.open_shut.new.engine.fates c.loop.follow c.open_shut.ensures.still.fates) closed.followed);
    }

pub returns-in_err-close_round-clause-comes : goal.returns-in_err-close_round-clause-comes
returns-in_err-close_round-clause-comes g c =
    let custom = g.O.RowOp.meaning c.args.custom.now in
    let opened = c.in_ok-open_shut.ensures in
    let mid = c.loop.engine in
    let behind = opens_behind g.I.Ids.tells (topology_in mid) custom (cut_in mid) c.shut-shut.result mid c.open_shut.new.engine opened.opens in
    let asked = c.passed-passed.ensures in
    let shut = c.shut-shut.ensures in
    let exits = c.from_residual-in_err-close_round in
    turned-bad g.I.Ids.tells g.C.CellStore.tells g.C.CellStore.fault_count g.T.Ticks.handed_out g.T.Ticks.tells g.V.Avail.tells custom c.args.engine.now c.args.parts.now c.args.ticks.now c.args.avail.now (λ (t : Topology) (cut : Cut). c.laws_of_steps.ensures t custom cut) c.loop.engine c.loop.parts c.loop.ticks c.loop.avail c.loop.invariant.turning
    c.open_shut.new.engine c.shut-shut.result c.shut-shut.new.self shut.told shut.tells_the_rest c.passed-passed.result c.passed-passed.new.self behind.events behind.work opened.same_run behind.goes c.open_shut.ensures.still asked.counted asked.told asked.tells_the_rest
    c.close_round.new.engine c.close_round.new.parts exits.result _ exits.ensures.1
    (λ key is. c.close_round.ensures.bad key (handed_on exits.result c.close_round.result _ (fault.BadCell key) exits.ensures.1 c.in_err-close_round.was is))
    (λ txid is. c.close_round.ensures.failed txid (handed_on exits.result c.close_round.result _ (fault.Follow txid) exits.ensures.1 c.in_err-close_round.was is))
    (λ is. c.close_round.ensures.short (handed_on exits.result c.close_round.result _ fault.Memory exits.ensures.1 c.in_err-close_round.was is))

pub returns-in_err-open_shut-clause-comes : goal.returns-in_err-open_shut-clause-comes
returns-in_err-open_shut-clause-comes g c =
    let custom = g.O.RowOp.meaning c.args.custom.now in
    let exits = c.from_residual in
    turned-short g.I.Ids.tells g.C.CellStore.tells g.C.CellStore.fault_count g.T.Ticks.handed_out g.T.Ticks.tells g.V.Avail.tells custom c.args.engine.now c.args.parts.now c.args.ticks.now c.args.avail.now (λ (t : Topology) (cut : Cut). c.laws_of_steps.ensures t custom cut) c.loop.engine c.loop.parts c.loop.ticks c.loop.avail c.loop.invariant.turning
    exits.result _ c.open_shut.new.engine exits.ensures.1 refl c.open_shut.ensures.still

pub returns-in_err-close_round-clause-kept : goal.returns-in_err-close_round-clause-kept
returns-in_err-close_round-clause-kept g c =
    kept-then g.C.CellStore.tells c.args.parts.now c.loop.parts c.close_round.new.parts c.loop.invariant.turning.driven.kept c.close_round.ensures.kept

-- ---- a follower

pub close_round-requires-clause-takes : goal.close_round-requires-clause-takes
close_round-requires-clause-takes g c = λ lives bounds. taken_still c.loop.engine c.open_shut.new.engine (g.W.Follow.takes c.loop.follow) c.open_shut.ensures.still c.loop.invariant.told.taken

pub returns-in_err-open_shut-clause-followed : goal.returns-in_err-open_shut-clause-followed
returns-in_err-open_shut-clause-followed g c = followed-short g.W.Follow.tells g.W.Follow.fault_count c.from_residual.result c.args.engine.now.fates c.open_shut.new.engine.fates c.args.follow.now c.loop.follow c.from_residual.ensures.1 c.loop.invariant.told.follows.quiet

pub returns-in_err-close_round-clause-followed : goal.returns-in_err-close_round-clause-followed
returns-in_err-close_round-clause-followed g c =
    let old = c.args.engine.now in
    let mid = c.loop.engine in
    let exits = c.from_residual-in_err-close_round in
    let opened = follows-same g.W.Follow.tells g.W.Follow.fault_count mid.fates c.open_shut.new.engine.fates c.loop.follow c.open_shut.ensures.still.fates in
    followed-handed g.W.Follow.tells g.W.Follow.fault_count exits.result c.close_round.result _ old.fates c.close_round.new.engine.fates c.args.follow.now c.close_round.new.follow exits.ensures.1 c.in_err-close_round.was
    (followed-then g.W.Follow.tells g.W.Follow.fault_count c.close_round.result old.fates c.open_shut.new.engine.fates c.close_round.new.engine.fates c.args.follow.now c.loop.follow c.close_round.new.follow
    (follows-then g.W.Follow.tells g.W.Follow.fault_count old.fates mid.fates c.open_shut.new.engine.fates c.args.follow.now c.loop.follow c.loop.follow c.loop.invariant.told.follows opened) c.close_round.ensures.followed)

pub returns-then-is_over-clause-followed : goal.returns-then-is_over-clause-followed
returns-then-is_over-clause-followed g c = c.loop.invariant.told.follows
