use Rattle.event_engine.specs.Boosts.{AckerRests}
use Rattle.event_engine.specs.Engines.{cut_in, topology_in}
use Rattle.event_engine.proofs.BoostLemmas.{goes_on_still, task_here}
use Rattle.event_engine.proofs.WriteLemmas.{acker_low, beside-acker, beside-none, beside-then, beside_there, writes-beside}
use Rattle.event_engine.proofs.engine.Engine.write_event.Goals as goal

pub acker_often-requires-clause-there : goal.acker_often-requires-clause-there
acker_often-requires-clause-there g c =
    let old = c.args.self.now in
    let t = topology_in old in
    acker_low t (cut_in old) c.args.n c.in-Some.a old c.requires.ready (task_here t (cut_in old) old c.requires.ready c.args.n c.requires.there) c.in-Some.ensures

pub returns-in_default-clause-goes : goal.returns-in_default-clause-goes
returns-in_default-clause-goes g c custom = let old = c.args.self.now in beside-none g.I.Ids.tells (topology_in old) custom (cut_in old) c.args.n 2 old

pub returns-clause-goes : goal.returns-clause-goes
returns-clause-goes g c custom =
    let old = c.args.self.now in
    let t = topology_in old in
    let cut = cut_in old in
    let tells = g.I.Ids.tells in
    let mid = c.acker_often.new.self in
    let new = c.write_to.new.self in
    let rested = c.in_ok-acker_often.ensures in
    let on = goes_on_still old mid c.acker_often.ensures.still c.requires.goes_on in
    let first = beside-acker tells t custom cut c.args.n c.args.most 0 c.in-Some.a (AckerRests c.in-Some.a) old mid (rested.goes custom) in
    let second = beside_there tells t cut mid new rested.ready custom 2 c.args.n (writes-beside tells custom c.args.n mid new c.write_to.ensures.still on c.in_ok-wrote.wrote c.in_ok-wrote.ensures.wrote) in
    beside-then tells t custom cut c.args.n 0 2 old mid new first second
