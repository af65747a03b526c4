use Rattle.std.proofs.Common.{◌<◌, length, arith}
use Rattle.replay_pending.proofs.Counting.{kept-begun}
use Rattle.replay_pending.proofs.pending.Pending.begin.Goals as goal
use Rattle.replay_pending.proofs.pending.Pending.begin.Goals.{in-Ok, in-Err}

pub invariant_of-self : goal.invariant_of-self
invariant_of-self g c =
    let f = c.self.inside in
    let next = rw (← c.self.view_is) at c.requires in
    let len = c.len.ensures in
    let all = f.entries.ok.0 in
    let below = c.if-len-self.false in
    let room : length f.entries.items < f.cap = omega arith in
    elim c.match-add_entry.branch [
      | in-Ok w ↦
          rw (w.in-Ok.ensures.placed, w.in-Ok.ensures.counted)
          (kept-begun f.cap f.tries f.entries.items c.args.root _ f.tick c.self.invariant room next.0 next.1)
      | in-Err w ↦ rw (w.in-Err.ensures.entries_stay, w.in-Err.ensures.counts_stay) c.self.invariant
    ]
