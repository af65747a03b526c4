use Rattle.std.proofs.Common.{[], ◌∷◌, ap, refl}
use Rattle.event_engine.specs.Engines.{cut_in, topology_in}
use Rattle.event_worlds.specs.Worlds.{of_acker, of_open, of_shut, of_task, of_tick}
use Rattle.schedule_core.proofs.Drives.{drives-still, wants-still}
use Rattle.schedule_core.proofs.Following.{followed-handed, followed-short, follows-same, follows_as, short_no_follower, taken_as, taken_still}
use Rattle.schedule_core.proofs.Keeping.{kept-as, kept-none}
use Rattle.schedule_core.proofs.Resting.{at_rest_after, at_rest_as, breaks_as, drives_as, handed_on, unfollowed_as}
use Rattle.schedule_core.proofs.drive.carry_out.Goals as goal
use Rattle.schedule_core.proofs.drive.carry_out.Goals.{in-Task+in_ok-task-in-Task, in-Acker+in_ok-acker-in-Acker, in-Coord+in_ok-coordinate-in-Coord, in-Tick, in-Shut, in-Open, in-Rounds+in_ok-rounds-in-Rounds}

pub returns-in_err-coordinate-in-Coord-clause-bad : goal.returns-in_err-coordinate-in-Coord-clause-bad
returns-in_err-coordinate-in-Coord-clause-bad g c = λ key is.
    let old = c.args.engine.now in
    let custom = g.O.RowOp.meaning c.args.custom.now in
    breaks_as g.I.Ids.tells g.C.CellStore.tells g.C.CellStore.fault_count custom (topology_in old) (cut_in old) c.args.event _ key old c.coordinate.new.engine c.args.parts.now c.coordinate.new.parts c.in-Coord.is
    (c.coordinate.ensures.bad key (handed_on c.from_residual-in_err-coordinate-in-Coord.result c.coordinate.result _ _ c.from_residual-in_err-coordinate-in-Coord.ensures.1 c.in_err-coordinate-in-Coord.was is))

pub returns-in_err-rounds-in-Rounds-clause-bad : goal.returns-in_err-rounds-in-Rounds-clause-bad
returns-in_err-rounds-in-Rounds-clause-bad g c = λ key is.
    let old = c.args.engine.now in
    let custom = g.O.RowOp.meaning c.args.custom.now in
    breaks_as g.I.Ids.tells g.C.CellStore.tells g.C.CellStore.fault_count custom (topology_in old) (cut_in old) c.args.event _ key old c.rounds.new.engine c.args.parts.now c.rounds.new.parts c.in-Rounds.is
    (c.rounds.ensures.bad key (handed_on c.from_residual-in_err-rounds-in-Rounds.result c.rounds.result _ _ c.from_residual-in_err-rounds-in-Rounds.ensures.1 c.in_err-rounds-in-Rounds.was is))

pub returns-in_err-coordinate-in-Coord-clause-short : goal.returns-in_err-coordinate-in-Coord-clause-short
returns-in_err-coordinate-in-Coord-clause-short g c = λ is.
    let custom = g.O.RowOp.meaning c.args.custom.now in
    c.coordinate.ensures.short (handed_on c.from_residual-in_err-coordinate-in-Coord.result c.coordinate.result _ _ c.from_residual-in_err-coordinate-in-Coord.ensures.1 c.in_err-coordinate-in-Coord.was is)

pub returns-in_err-rounds-in-Rounds-clause-short : goal.returns-in_err-rounds-in-Rounds-clause-short
returns-in_err-rounds-in-Rounds-clause-short g c = λ is.
    c.rounds.ensures.short (handed_on c.from_residual-in_err-rounds-in-Rounds.result c.rounds.result _ _ c.from_residual-in_err-rounds-in-Rounds.ensures.1 c.in_err-rounds-in-Rounds.was is)

pub returns-in_err-task-in-Task-clause-short : goal.returns-in_err-task-in-Task-clause-short
returns-in_err-task-in-Task-clause-short g c = λ is.
    let old = c.args.engine.now in
    let custom = g.O.RowOp.meaning c.args.custom.now in
    let laws = c.laws_of_steps.ensures (topology_in old) custom (cut_in old) in
    wants-still g.I.Ids.tells g.C.CellStore.tells g.C.CellStore.fault_count (topology_in old) custom (cut_in old) laws old c.task.new.self.fates c.args.parts.now c.task.ensures.still.fates

pub returns-in_err-acker-in-Acker-clause-short : goal.returns-in_err-acker-in-Acker-clause-short
returns-in_err-acker-in-Acker-clause-short g c = λ is.
    let old = c.args.engine.now in
    let custom = g.O.RowOp.meaning c.args.custom.now in
    let laws = c.laws_of_steps.ensures (topology_in old) custom (cut_in old) in
    wants-still g.I.Ids.tells g.C.CellStore.tells g.C.CellStore.fault_count (topology_in old) custom (cut_in old) laws old c.acker.new.self.fates c.args.parts.now c.acker.ensures.still.fates

pub returns-in_err-task-in-Task-clause-kept : goal.returns-in_err-task-in-Task-clause-kept
returns-in_err-task-in-Task-clause-kept g c = kept-none g.C.CellStore.tells c.args.parts.now

pub returns-in_err-acker-in-Acker-clause-kept : goal.returns-in_err-acker-in-Acker-clause-kept
returns-in_err-acker-in-Acker-clause-kept g c = kept-none g.C.CellStore.tells c.args.parts.now

pub returns-clause-kept : goal.returns-clause-kept
returns-clause-kept g c =
    let holds = g.C.CellStore.tells in
    let parts = c.args.parts.now in
    let is = c.match-event.parts in
    elim c.match-event.branch [
      | in-Task+in_ok-task-in-Task w ↦ kept-as holds parts parts is w.parts-is (kept-none holds parts)
      | in-Acker+in_ok-acker-in-Acker w ↦ kept-as holds parts parts is w.parts-is (kept-none holds parts)
      | in-Coord+in_ok-coordinate-in-Coord w ↦ kept-as holds parts w.coordinate.new.parts is w.parts-is w.coordinate.ensures.kept
      | in-Tick w ↦ kept-as holds parts parts is w.parts-is (kept-none holds parts)
      | in-Shut w ↦ kept-as holds parts parts is w.parts-is (kept-none holds parts)
      | in-Open w ↦ kept-as holds parts parts is w.parts-is (kept-none holds parts)
      | in-Rounds+in_ok-rounds-in-Rounds w ↦ kept-as holds parts w.rounds.new.parts is w.parts-is w.rounds.ensures.kept
    ]

pub returns-clause-at_rest : goal.returns-clause-at_rest
returns-clause-at_rest g c =
    let old = c.args.engine.now in
    let rest = c.requires.at_rest in
    elim c.match-event.branch [
      | in-Task+in_ok-task-in-Task w ↦
          let now = w.in_ok-task-in-Task.ensures in
          at_rest_as w.task.new.self c.match-event.engine w.engine-is (at_rest_after old w.task.new.self rest now.ready w.task.ensures.still)
      | in-Acker+in_ok-acker-in-Acker w ↦
          let now = w.in_ok-acker-in-Acker.ensures in
          at_rest_as w.acker.new.self c.match-event.engine w.engine-is (at_rest_after old w.acker.new.self rest now.ready w.acker.ensures.still)
      | in-Coord+in_ok-coordinate-in-Coord w ↦
          let now = w.in_ok-coordinate-in-Coord.ensures in
          at_rest_as w.coordinate.new.engine c.match-event.engine w.engine-is now.at_rest
      | in-Tick w ↦
          at_rest_as w.tick.new.self c.match-event.engine w.engine-is (at_rest_after old w.tick.new.self rest w.tick.ensures.ready w.tick.ensures.still)
      | in-Shut w ↦
          at_rest_as w.shut.new.self c.match-event.engine w.engine-is (at_rest_after old w.shut.new.self rest w.shut.ensures.ready w.shut.ensures.still)
      | in-Open w ↦
          at_rest_as w.open.new.self c.match-event.engine w.engine-is (at_rest_after old w.open.new.self rest w.open.ensures.ready w.open.ensures.still)
      | in-Rounds+in_ok-rounds-in-Rounds w ↦
          let now = w.in_ok-rounds-in-Rounds.ensures in
          at_rest_as w.rounds.new.engine c.match-event.engine w.engine-is now.at_rest
    ]

pub returns-clause-drives : goal.returns-clause-drives
returns-clause-drives g c =
    let old = c.args.engine.now in
    let t = topology_in old in
    let cut = cut_in old in
    let custom = g.O.RowOp.meaning c.args.custom.now in
    let tells = g.I.Ids.tells in
    let holds = g.C.CellStore.tells in
    let count = g.C.CellStore.fault_count in
    let parts = c.args.parts.now in
    let laws = c.laws_of_steps.ensures t custom cut in
    elim c.match-event.branch [
      | in-Task+in_ok-task-in-Task w ↦
          let now = w.in_ok-task-in-Task.ensures in
          drives_as tells holds count custom t cut c.args.event _ old w.task.new.self c.match-event.engine parts parts c.match-event.parts w.in-Task.is w.engine-is w.parts-is
          (drives-still tells holds count t custom cut laws (of_task w.in-Task.n ∷ []) old w.task.new.self parts now.goes w.task.ensures.still)
      | in-Acker+in_ok-acker-in-Acker w ↦
          let now = w.in_ok-acker-in-Acker.ensures in
          drives_as tells holds count custom t cut c.args.event _ old w.acker.new.self c.match-event.engine parts parts c.match-event.parts w.in-Acker.is w.engine-is w.parts-is
          (drives-still tells holds count t custom cut laws (of_acker w.in-Acker.n ∷ []) old w.acker.new.self parts (now.goes custom) w.acker.ensures.still)
      | in-Coord+in_ok-coordinate-in-Coord w ↦
          let now = w.in_ok-coordinate-in-Coord.ensures in
          drives_as tells holds count custom t cut c.args.event _ old w.coordinate.new.engine c.match-event.engine parts w.coordinate.new.parts c.match-event.parts w.in-Coord.is w.engine-is w.parts-is now.drives
      | in-Tick w ↦
          drives_as tells holds count custom t cut c.args.event _ old w.tick.new.self c.match-event.engine parts parts c.match-event.parts w.in-Tick.is w.engine-is w.parts-is
          (drives-still tells holds count t custom cut laws (of_tick ∷ []) old w.tick.new.self parts (w.tick.ensures.goes custom) w.tick.ensures.still)
      | in-Shut w ↦
          drives_as tells holds count custom t cut c.args.event _ old w.shut.new.self c.match-event.engine parts parts c.match-event.parts w.in-Shut.is w.engine-is w.parts-is
          (drives-still tells holds count t custom cut laws (of_shut w.in-Shut.partition ∷ []) old w.shut.new.self parts (w.shut.ensures.goes custom) w.shut.ensures.still)
      | in-Open w ↦
          drives_as tells holds count custom t cut c.args.event _ old w.open.new.self c.match-event.engine parts parts c.match-event.parts w.in-Open.is w.engine-is w.parts-is
          (drives-still tells holds count t custom cut laws (of_open w.in-Open.partition ∷ []) old w.open.new.self parts (w.open.ensures.goes custom) w.open.ensures.still)
      | in-Rounds+in_ok-rounds-in-Rounds w ↦
          let now = w.in_ok-rounds-in-Rounds.ensures in
          drives_as tells holds count custom t cut c.args.event _ old w.rounds.new.engine c.match-event.engine parts w.rounds.new.parts c.match-event.parts w.in-Rounds.is w.engine-is w.parts-is now.drives
    ]

-- ---- a follower

pub returns-in_err-coordinate-in-Coord-clause-failed : goal.returns-in_err-coordinate-in-Coord-clause-failed
returns-in_err-coordinate-in-Coord-clause-failed g c = λ txid is.
    let old = c.args.engine.now in
    let custom = g.O.RowOp.meaning c.args.custom.now in
    unfollowed_as g.I.Ids.tells g.C.CellStore.tells g.C.CellStore.fault_count custom (topology_in old) (cut_in old) c.args.event _ txid old c.coordinate.new.engine c.args.parts.now c.coordinate.new.parts c.in-Coord.is
    (c.coordinate.ensures.failed txid (handed_on c.from_residual-in_err-coordinate-in-Coord.result c.coordinate.result _ _ c.from_residual-in_err-coordinate-in-Coord.ensures.1 c.in_err-coordinate-in-Coord.was is))

pub returns-in_err-coordinate-in-Coord-clause-followed : goal.returns-in_err-coordinate-in-Coord-clause-followed
returns-in_err-coordinate-in-Coord-clause-followed g c =
    followed-handed g.W.Follow.tells g.W.Follow.fault_count c.from_residual-in_err-coordinate-in-Coord.result c.coordinate.result _ c.args.engine.now.fates c.coordinate.new.engine.fates c.args.follow.now c.coordinate.new.follow c.from_residual-in_err-coordinate-in-Coord.ensures.1 c.in_err-coordinate-in-Coord.was c.coordinate.ensures.followed

pub returns-in_err-rounds-in-Rounds-clause-failed : goal.returns-in_err-rounds-in-Rounds-clause-failed
returns-in_err-rounds-in-Rounds-clause-failed g c = λ txid is.
    let old = c.args.engine.now in
    let custom = g.O.RowOp.meaning c.args.custom.now in
    unfollowed_as g.I.Ids.tells g.C.CellStore.tells g.C.CellStore.fault_count custom (topology_in old) (cut_in old) c.args.event _ txid old c.rounds.new.engine c.args.parts.now c.rounds.new.parts c.in-Rounds.is
    (c.rounds.ensures.failed txid (handed_on c.from_residual-in_err-rounds-in-Rounds.result c.rounds.result _ _ c.from_residual-in_err-rounds-in-Rounds.ensures.1 c.in_err-rounds-in-Rounds.was is))

pub returns-in_err-rounds-in-Rounds-clause-followed : goal.returns-in_err-rounds-in-Rounds-clause-followed
returns-in_err-rounds-in-Rounds-clause-followed g c =
    followed-handed g.W.Follow.tells g.W.Follow.fault_count c.from_residual-in_err-rounds-in-Rounds.result c.rounds.result _ c.args.engine.now.fates c.rounds.new.engine.fates c.args.follow.now c.rounds.new.follow c.from_residual-in_err-rounds-in-Rounds.ensures.1 c.in_err-rounds-in-Rounds.was c.rounds.ensures.followed

pub returns-in_err-task-in-Task-clause-failed : goal.returns-in_err-task-in-Task-clause-failed
returns-in_err-task-in-Task-clause-failed g c = λ txid is. absurd (short_no_follower c.from_residual.result txid c.from_residual.ensures.1 is)

pub returns-in_err-task-in-Task-clause-followed : goal.returns-in_err-task-in-Task-clause-followed
returns-in_err-task-in-Task-clause-followed g c = followed-short g.W.Follow.tells g.W.Follow.fault_count c.from_residual.result c.args.engine.now.fates c.task.new.self.fates c.args.follow.now c.args.follow.now c.from_residual.ensures.1 refl

pub returns-in_err-acker-in-Acker-clause-failed : goal.returns-in_err-acker-in-Acker-clause-failed
returns-in_err-acker-in-Acker-clause-failed g c = λ txid is. absurd (short_no_follower c.from_residual-in_err-acker-in-Acker.result txid c.from_residual-in_err-acker-in-Acker.ensures.1 is)

pub returns-in_err-acker-in-Acker-clause-followed : goal.returns-in_err-acker-in-Acker-clause-followed
returns-in_err-acker-in-Acker-clause-followed g c = followed-short g.W.Follow.tells g.W.Follow.fault_count c.from_residual-in_err-acker-in-Acker.result c.args.engine.now.fates c.acker.new.self.fates c.args.follow.now c.args.follow.now c.from_residual-in_err-acker-in-Acker.ensures.1 refl

pub returns-clause-takes : goal.returns-clause-takes
returns-clause-takes g c =
    let old = c.args.engine.now in
    let x = c.args.follow.now in
    let end = c.match-event.engine in
    let z = c.match-event.follow in
    elim c.match-event.branch [
      | in-Task+in_ok-task-in-Task w ↦ taken_as w.task.new.self end (g.W.Follow.takes x) (g.W.Follow.takes z) w.engine-is (ap g.W.Follow.takes w.follow-is) (taken_still old w.task.new.self (g.W.Follow.takes x) w.task.ensures.still c.requires.takes)
      | in-Acker+in_ok-acker-in-Acker w ↦ taken_as w.acker.new.self end (g.W.Follow.takes x) (g.W.Follow.takes z) w.engine-is (ap g.W.Follow.takes w.follow-is) (taken_still old w.acker.new.self (g.W.Follow.takes x) w.acker.ensures.still c.requires.takes)
      | in-Coord+in_ok-coordinate-in-Coord w ↦ taken_as w.coordinate.new.engine end (g.W.Follow.takes w.coordinate.new.follow) (g.W.Follow.takes z) w.engine-is (ap g.W.Follow.takes w.follow-is) w.in_ok-coordinate-in-Coord.ensures.takes
      | in-Tick w ↦ taken_as w.tick.new.self end (g.W.Follow.takes x) (g.W.Follow.takes z) w.engine-is (ap g.W.Follow.takes w.follow-is) (taken_still old w.tick.new.self (g.W.Follow.takes x) w.tick.ensures.still c.requires.takes)
      | in-Shut w ↦ taken_as w.shut.new.self end (g.W.Follow.takes x) (g.W.Follow.takes z) w.engine-is (ap g.W.Follow.takes w.follow-is) (taken_still old w.shut.new.self (g.W.Follow.takes x) w.shut.ensures.still c.requires.takes)
      | in-Open w ↦ taken_as w.open.new.self end (g.W.Follow.takes x) (g.W.Follow.takes z) w.engine-is (ap g.W.Follow.takes w.follow-is) (taken_still old w.open.new.self (g.W.Follow.takes x) w.open.ensures.still c.requires.takes)
      | in-Rounds+in_ok-rounds-in-Rounds w ↦ taken_as w.rounds.new.engine end (g.W.Follow.takes w.rounds.new.follow) (g.W.Follow.takes z) w.engine-is (ap g.W.Follow.takes w.follow-is) w.in_ok-rounds-in-Rounds.ensures.takes
    ]

pub returns-clause-followed : goal.returns-clause-followed
returns-clause-followed g c =
    let old = c.args.engine.now in
    let x = c.args.follow.now in
    let end = c.match-event.engine in
    let z = c.match-event.follow in
    elim c.match-event.branch [
      | in-Task+in_ok-task-in-Task w ↦ follows_as g.W.Follow.tells g.W.Follow.fault_count old w.task.new.self end x x z w.engine-is w.follow-is (follows-same g.W.Follow.tells g.W.Follow.fault_count old.fates w.task.new.self.fates x w.task.ensures.still.fates)
      | in-Acker+in_ok-acker-in-Acker w ↦ follows_as g.W.Follow.tells g.W.Follow.fault_count old w.acker.new.self end x x z w.engine-is w.follow-is (follows-same g.W.Follow.tells g.W.Follow.fault_count old.fates w.acker.new.self.fates x w.acker.ensures.still.fates)
      | in-Coord+in_ok-coordinate-in-Coord w ↦ follows_as g.W.Follow.tells g.W.Follow.fault_count old w.coordinate.new.engine end x w.coordinate.new.follow z w.engine-is w.follow-is w.in_ok-coordinate-in-Coord.ensures.followed
      | in-Tick w ↦ follows_as g.W.Follow.tells g.W.Follow.fault_count old w.tick.new.self end x x z w.engine-is w.follow-is (follows-same g.W.Follow.tells g.W.Follow.fault_count old.fates w.tick.new.self.fates x w.tick.ensures.still.fates)
      | in-Shut w ↦ follows_as g.W.Follow.tells g.W.Follow.fault_count old w.shut.new.self end x x z w.engine-is w.follow-is (follows-same g.W.Follow.tells g.W.Follow.fault_count old.fates w.shut.new.self.fates x w.shut.ensures.still.fates)
      | in-Open w ↦ follows_as g.W.Follow.tells g.W.Follow.fault_count old w.open.new.self end x x z w.engine-is w.follow-is (follows-same g.W.Follow.tells g.W.Follow.fault_count old.fates w.open.new.self.fates x w.open.ensures.still.fates)
      | in-Rounds+in_ok-rounds-in-Rounds w ↦ follows_as g.W.Follow.tells g.W.Follow.fault_count old w.rounds.new.engine end x w.rounds.new.follow z w.engine-is w.follow-is w.in_ok-rounds-in-Rounds.ensures.followed
    ]
