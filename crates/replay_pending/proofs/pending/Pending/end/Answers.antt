use Rattle.replay_pending.proofs.Counting.{kept-filter}
use Rattle.replay_pending.proofs.pending.Pending.end.Goals as goal

pub invariant_of-self : goal.invariant_of-self
invariant_of-self g c =
    let f = c.self.inside in
    rw c.take.ensures.left (kept-filter f.cap f.tries f.entries.items _ c.self.invariant)
