use Rattle.std.proofs.Common.{refl}
use Rattle.event_engine.specs.Engines.{cut_in, topology_in}
use Rattle.event_worlds.specs.Worlds.{coordinator_steps}
use Rattle.schedule_core.proofs.Drives.{wants-still}
use Rattle.schedule_core.proofs.Keeping.{kept-none}
use Rattle.schedule_core.proofs.Following.{followed-handed, followed-then, follows-same, follows-then, followed-short, short_no_follower, taken_still}
use Rattle.schedule_core.proofs.Resting.{breaks_on, drives_on, handed_on, unfollowed_on, wants_on}
use Rattle.schedule_core.specs.Rounding.{opening_steps}
use Rattle.event_worlds.specs.topology_plan.Topology.{Topology}
use Rattle.schedule_core.proofs.drive.round.Goals as goal

pub returns-in_err-open_round-clause-kept : goal.returns-in_err-open_round-clause-kept
returns-in_err-open_round-clause-kept g c = kept-none g.C.CellStore.tells c.args.parts.now

pub returns-in_err-coordinate-clause-bad : goal.returns-in_err-coordinate-clause-bad
returns-in_err-coordinate-clause-bad g c = λ key is.
    let old = c.args.engine.now in
    let custom = g.O.RowOp.meaning c.args.custom.now in
    let laws = c.laws_of_steps.ensures (topology_in old) custom (cut_in old) in
    let opened = c.in_ok-open_round.ensures in
    breaks_on g.I.Ids.tells g.C.CellStore.tells g.C.CellStore.fault_count custom opening_steps (λ (u : Topology). coordinator_steps) old c.open_round.new.engine c.coordinate.new.engine c.args.parts.now c.coordinate.new.parts laws opened.same_run opened.goes c.open_round.ensures.still key
    (c.coordinate.ensures.bad key (handed_on c.from_residual-in_err-coordinate.result c.coordinate.result _ _ c.from_residual-in_err-coordinate.ensures.1 c.in_err-coordinate.was is))

pub returns-in_err-coordinate-clause-short : goal.returns-in_err-coordinate-clause-short
returns-in_err-coordinate-clause-short g c = λ is.
    let old = c.args.engine.now in
    let custom = g.O.RowOp.meaning c.args.custom.now in
    let laws = c.laws_of_steps.ensures (topology_in old) custom (cut_in old) in
    let opened = c.in_ok-open_round.ensures in
    wants_on g.I.Ids.tells g.C.CellStore.tells g.C.CellStore.fault_count custom opening_steps old c.open_round.new.engine c.coordinate.new.engine.fates c.args.parts.now c.coordinate.new.parts laws opened.same_run opened.goes c.open_round.ensures.still
    (c.coordinate.ensures.short (handed_on c.from_residual-in_err-coordinate.result c.coordinate.result _ _ c.from_residual-in_err-coordinate.ensures.1 c.in_err-coordinate.was is))

pub returns-in_err-open_round-clause-short : goal.returns-in_err-open_round-clause-short
returns-in_err-open_round-clause-short g c = λ is.
    let old = c.args.engine.now in
    let custom = g.O.RowOp.meaning c.args.custom.now in
    let laws = c.laws_of_steps.ensures (topology_in old) custom (cut_in old) in
    wants-still g.I.Ids.tells g.C.CellStore.tells g.C.CellStore.fault_count (topology_in old) custom (cut_in old) laws old c.open_round.new.engine.fates c.args.parts.now c.open_round.ensures.still.fates

pub returns-clause-drives : goal.returns-clause-drives
returns-clause-drives g c =
    let old = c.args.engine.now in
    let custom = g.O.RowOp.meaning c.args.custom.now in
    let laws = c.laws_of_steps.ensures (topology_in old) custom (cut_in old) in
    let opened = c.in_ok-open_round.ensures in
    drives_on g.I.Ids.tells g.C.CellStore.tells g.C.CellStore.fault_count custom opening_steps (λ (u : Topology). coordinator_steps) old c.open_round.new.engine c.coordinate.new.engine c.args.parts.now c.coordinate.new.parts laws opened.same_run opened.goes c.open_round.ensures.still (c.in_ok-coordinate.ensures.drives)

-- ---- a follower

pub coordinate-requires-clause-takes : goal.coordinate-requires-clause-takes
coordinate-requires-clause-takes g c = λ lives bounds. taken_still c.args.engine.now c.open_round.new.engine (g.W.Follow.takes c.args.follow.now) c.open_round.ensures.still c.requires.takes

pub returns-in_err-coordinate-clause-failed : goal.returns-in_err-coordinate-clause-failed
returns-in_err-coordinate-clause-failed g c = λ txid is.
    let custom = g.O.RowOp.meaning c.args.custom.now in
    let old = c.args.engine.now in
    let laws = c.laws_of_steps.ensures (topology_in old) custom (cut_in old) in
    let opened = c.in_ok-open_round.ensures in
    unfollowed_on g.I.Ids.tells g.C.CellStore.tells g.C.CellStore.fault_count custom opening_steps (λ (u : Topology). coordinator_steps) old c.open_round.new.engine c.coordinate.new.engine c.args.parts.now c.coordinate.new.parts laws c.in_ok-open_round.ensures.same_run opened.goes c.open_round.ensures.still txid
    (c.coordinate.ensures.failed txid (handed_on c.from_residual-in_err-coordinate.result c.coordinate.result _ _ c.from_residual-in_err-coordinate.ensures.1 c.in_err-coordinate.was is))

pub returns-in_err-coordinate-clause-followed : goal.returns-in_err-coordinate-clause-followed
returns-in_err-coordinate-clause-followed g c =
    let old = c.args.engine.now in
    let x = c.args.follow.now in
    followed-handed g.W.Follow.tells g.W.Follow.fault_count c.from_residual-in_err-coordinate.result c.coordinate.result _ old.fates c.coordinate.new.engine.fates x c.coordinate.new.follow c.from_residual-in_err-coordinate.ensures.1 c.in_err-coordinate.was
    (followed-then g.W.Follow.tells g.W.Follow.fault_count c.coordinate.result old.fates c.open_round.new.engine.fates c.coordinate.new.engine.fates x x c.coordinate.new.follow (follows-same g.W.Follow.tells g.W.Follow.fault_count old.fates c.open_round.new.engine.fates x c.open_round.ensures.still.fates) c.coordinate.ensures.followed)

pub returns-clause-followed : goal.returns-clause-followed
returns-clause-followed g c =
    let old = c.args.engine.now in
    let x = c.args.follow.now in
    follows-then g.W.Follow.tells g.W.Follow.fault_count old.fates c.open_round.new.engine.fates c.coordinate.new.engine.fates x x c.coordinate.new.follow (follows-same g.W.Follow.tells g.W.Follow.fault_count old.fates c.open_round.new.engine.fates x c.open_round.ensures.still.fates) c.in_ok-coordinate.ensures.followed

pub returns-in_err-open_round-clause-failed : goal.returns-in_err-open_round-clause-failed
returns-in_err-open_round-clause-failed g c = λ txid is. absurd (short_no_follower c.from_residual.result txid c.from_residual.ensures.1 is)

pub returns-in_err-open_round-clause-followed : goal.returns-in_err-open_round-clause-followed
returns-in_err-open_round-clause-followed g c = followed-short g.W.Follow.tells g.W.Follow.fault_count c.from_residual.result c.args.engine.now.fates c.open_round.new.engine.fates c.args.follow.now c.args.follow.now c.from_residual.ensures.1 refl
