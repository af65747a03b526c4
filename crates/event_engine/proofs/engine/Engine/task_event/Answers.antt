use Rattle.std.proofs.Common.{None, Some, refl}
use Rattle.event_engine.specs.Engines.{cut_in, topology_in}
use Rattle.event_engine.proofs.EngineLemmas.{act_seats, handed_there, seated_by, takes_at, task_happens}
use Rattle.event_engine.proofs.engine.Engine.task_event.Goals as goal

pub deliver-requires : goal.deliver-requires
deliver-requires g c =
    let old = c.args.self.now in
    let custom = g.O.RowOp.meaning c.args.custom.now in
    let handed = c.hand_over_at-parcel in
    handed_there g.I.Ids.tells (topology_in old) custom c.args.n handed.result (Some handed.result) old handed.new.tasks.items c.requires.ready.orderly c.requires.there c.requires.ready.seated.tasks
    (handed.ensures custom) refl

pub returns-then-has_parcel_at-clause-done : goal.returns-then-has_parcel_at-clause-done
returns-then-has_parcel_at-clause-done g c =
    let old = c.args.self.now in
    let custom = g.O.RowOp.meaning c.args.custom.now in
    let handed = c.hand_over_at-parcel in
    task_happens g.I.Ids.tells (topology_in old) custom c.args.n (Some handed.result) old (record old { tasks = handed.new.tasks }) c.deliver.new.self
    c.requires.ready.seated.tasks (handed.ensures custom) refl refl c.in_ok-deliver.ensures.done c.in_ok-deliver.ensures.sources c.deliver.ensures.still.fates

pub returns-then-has_parcel_at-clause-seated : goal.returns-then-has_parcel_at-clause-seated
returns-then-has_parcel_at-clause-seated g c =
    let old = c.args.self.now in
    let t = topology_in old in
    let cut = cut_in old in
    let custom = g.O.RowOp.meaning c.args.custom.now in
    let handed = c.hand_over_at-parcel in
    c.in_ok-deliver.ensures.seated t cut
    (seated_by t cut old (record old { tasks = handed.new.tasks }) c.requires.ready.seated refl refl
    (act_seats g.I.Ids.tells custom c.args.n t (Some handed.result) old.tasks.items handed.new.tasks.items c.requires.ready.seated.tasks (handed.ensures custom)) c.requires.ready.seated.ackers)

pub execute_at-requires-clause-takes : goal.execute_at-requires-clause-takes
execute_at-requires-clause-takes g c = λ lives bounds. takes_at g.I.Ids.tells (topology_in c.args.self.now) (g.O.RowOp.meaning c.args.custom.now) c.args.n (cut_in c.args.self.now) c.args.self.now c.requires.ready c.requires.there

pub returns-clause-done : goal.returns-clause-done
returns-clause-done g c =
    let old = c.args.self.now in
    task_happens g.I.Ids.tells (topology_in old) (g.O.RowOp.meaning c.args.custom.now) c.args.n None old (record old { tasks = c.execute_at.new.tasks }) (record old { tasks = c.execute_at.new.tasks })
    c.requires.ready.seated.tasks c.in_ok-execute_at.ensures refl refl refl refl refl

pub returns-clause-seated : goal.returns-clause-seated
returns-clause-seated g c =
    let old = c.args.self.now in
    let t = topology_in old in
    let cut = cut_in old in
    seated_by t cut old (record old { tasks = c.execute_at.new.tasks }) c.requires.ready.seated refl refl
    (act_seats g.I.Ids.tells (g.O.RowOp.meaning c.args.custom.now) c.args.n t None old.tasks.items c.execute_at.new.tasks.items c.requires.ready.seated.tasks c.in_ok-execute_at.ensures) c.requires.ready.seated.ackers
