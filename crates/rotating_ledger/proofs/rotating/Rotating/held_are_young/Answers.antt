use Rattle.std.proofs.Common.{arith}
use Rattle.rotating_ledger.proofs.YoungLemmas.{young-of}
use Rattle.rotating_ledger.proofs.rotating.Rotating.held_are_young.Goals as goal

pub returns : goal.returns
returns g c =
    let len = c.self.inside.buckets.ok.0 in
    rw (← c.self.view_is)
    (record { once = c.self.invariant.3; young = young-of c.self.inside.buckets.len c.self.inside.buckets.items (omega arith) })
