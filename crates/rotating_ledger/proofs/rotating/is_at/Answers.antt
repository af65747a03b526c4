use Rattle.rotating_ledger.proofs.BucketLemmas.{read_at}
use Rattle.rotating_ledger.proofs.rotating.is_at.Goals as goal

pub returns-in-Some : goal.returns-in-Some
returns-in-Some g c = λ seen. (
  c.in-Some.bucket.now,
  (let at = c.in-Some.ensures.lookup in read_at c.args.buckets.now c.args.place.0 c.in-Some.bucket.now at.1 at.3.0),
  c.has_at.ensures seen,
)
