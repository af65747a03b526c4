use Rattle.rotating_ledger.proofs.PlaceLemmas.{place-seen}
use Rattle.rotating_ledger.proofs.rotating.place_of.Goals as goal

pub returns-then-is_at : goal.returns-then-is_at
returns-then-is_at g c = place-seen c.args.root c.args.buckets.now c.args.first c.requires.found c.requires.once (c.is_at.ensures c.if-is_at.true)
