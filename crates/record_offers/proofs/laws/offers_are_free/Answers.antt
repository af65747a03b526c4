use Rattle.record_offers.proofs.OfferLemmas.{offered_free, offered_few}
use Rattle.record_offers.proofs.laws.offers_are_free.Goals as goal

pub returns : goal.returns
returns c = record { free = offered_free; few = offered_few }
