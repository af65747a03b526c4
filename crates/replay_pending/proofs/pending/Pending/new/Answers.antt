use Rattle.replay_pending.proofs.Counting.{kept-none}
use Rattle.replay_pending.proofs.pending.Pending.new.Goals as goal

pub invariant_of-result : goal.invariant_of-result
invariant_of-result g c = rw (c.new-2.ensures, c.new.ensures.items) (kept-none c.args.cap)
