use Rattle.std.proofs.Common.{◌≡◌, ◌∷◌, rules}
use Rattle.event_engine.specs.Engines.{cut_in, topology_in}
use Rattle.event_engine.proofs.ExchangeLemmas.{received_more, received_there, receiving_first}
use Rattle.event_engine.proofs.engine.Engine.receive.Goals as goal

pub loop-parcel-init : goal.loop-parcel-init
loop-parcel-init g c = receiving_first c.args.parcels c.from_vec-rest.result.items c.args.self.now (search rules) c.requires.ready c.requires.fit

pub deliver-requires : goal.deliver-requires
deliver-requires g c =
    let front : c.loop-parcel.rest.items ≡ c.in-Some.parcel ∷ c.pop_front.new.self.items = search rules in
    received_there c.args.parcels c.loop-parcel.rest.items c.pop_front.new.self.items c.in-Some.parcel c.args.self.now c.loop-parcel.self c.loop-parcel.invariant front

pub loop-parcel-preserved : goal.loop-parcel-preserved
loop-parcel-preserved g c =
    let old = c.args.self.now in
    let mid = c.loop-parcel.self in
    let front : c.loop-parcel.rest.items ≡ c.in-Some.parcel ∷ c.pop_front.new.self.items = search rules in
    let now = c.in_ok-deliver.ensures in
    received_more c.args.parcels c.loop-parcel.rest.items c.pop_front.new.self.items c.in-Some.parcel old mid c.loop-parcel.invariant front c.deliver.new.self now.done now.sources (now.seated (topology_in old) (cut_in old) c.loop-parcel.invariant.ready.seated) c.deliver.ensures.still
