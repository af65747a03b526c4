use Rattle.std.proofs.Common.{refl}
use Rattle.storm_stores.proofs.SlotLemmas.{SameParts-push}
use Rattle.storm_stores.proofs.memory_maker.place.Goals as goal

pub returns-in_ok-push-clause-same : goal.returns-in_ok-push-clause-same
returns-in_ok-push-clause-same c = rw c.in_ok-push.ensures.items (SameParts-push c.args.slots.now.items _ c.new.ensures.state refl)
