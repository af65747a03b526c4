use Rattle.std.proofs.Common.{refl}
use Rattle.event_worlds.specs.bolt_ops.RowOp.{reversed}
use Rattle.event_engine.specs.Engines.{cut_in, shape, topology_in}
use Rattle.event_engine.specs.Seats.{IsIdleAt}
use Rattle.event_worlds.specs.Worlds.{acker_at}
use Rattle.event_engine.proofs.BoostLemmas.{acker_here, task_here}
use Rattle.event_engine.proofs.EngineLemmas.{takes_at}
use Rattle.event_engine.proofs.WriteLemmas.{acker_low, writes_come, writes_ready}
use Rattle.event_engine.proofs.engine.Engine.write_to.Goals as goal

pub is_idle_at-requires : goal.is_idle_at-requires
is_idle_at-requires g c =
    let old = c.args.self.now in
    let t = topology_in old in
    acker_here t (cut_in old) old c.requires.ready c.in-Some.a
    (acker_low t (cut_in old) c.args.n c.in-Some.a old c.requires.ready (task_here t (cut_in old) old c.requires.ready c.args.n c.requires.there) c.in-Some.ensures)

pub write_at-requires-clause-there : goal.write_at-requires-clause-there
write_at-requires-clause-there g c =
    let old = c.args.self.now in
    let t = topology_in old in
    acker_here t (cut_in old) old c.requires.ready c.in-Some.a
    (acker_low t (cut_in old) c.args.n c.in-Some.a old c.requires.ready (task_here t (cut_in old) old c.requires.ready c.args.n c.requires.there) c.in-Some.ensures)

pub write_at-requires-clause-takes : goal.write_at-requires-clause-takes
write_at-requires-clause-takes g c = let old = c.args.self.now in takes_at g.I.Ids.tells (topology_in old) reversed c.args.n (cut_in old) old c.requires.ready c.requires.there

pub returns-clause-ready : goal.returns-clause-ready
returns-clause-ready g c =
    let old = c.args.self.now in
    let t = topology_in old in
    let new = record old { tasks = c.write_at.new.tasks; ackers = c.write_at.new.ackers } in
    let low = task_here t (cut_in old) old c.requires.ready c.args.n c.requires.there in
    let few = acker_here t (cut_in old) old c.requires.ready c.in-Some.a (acker_low t (cut_in old) c.args.n c.in-Some.a old c.requires.ready low c.in-Some.ensures) in
    let idle : IsIdleAt old.tick (acker_at c.in-Some.a (shape old)) = c.is_idle_at.ensures c.if-not-is_idle_at.false in
    writes_ready c.args.n c.in-Some.a old new c.requires.ready c.requires.there c.in-Some.ensures idle low few refl refl (record { coordinator = refl; fates = refl }) c.in_ok-wrote.wrote c.in_ok-wrote.ensures

pub returns-clause-wrote : goal.returns-clause-wrote
returns-clause-wrote g c =
    let old = c.args.self.now in
    let t = topology_in old in
    let new = record old { tasks = c.write_at.new.tasks; ackers = c.write_at.new.ackers } in
    let low = task_here t (cut_in old) old c.requires.ready c.args.n c.requires.there in
    let few = acker_here t (cut_in old) old c.requires.ready c.in-Some.a (acker_low t (cut_in old) c.args.n c.in-Some.a old c.requires.ready low c.in-Some.ensures) in
    let idle : IsIdleAt old.tick (acker_at c.in-Some.a (shape old)) = c.is_idle_at.ensures c.if-not-is_idle_at.false in
    writes_come c.args.n c.in-Some.a old new c.requires.ready c.requires.there c.in-Some.ensures idle low few refl refl (record { coordinator = refl; fates = refl }) c.in_ok-wrote.wrote c.in_ok-wrote.ensures
