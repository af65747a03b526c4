use Rattle.std.proofs.Common.{◌≡◌, [], ◌∷◌, ◌++◌, drop}
use Rattle.track_runs.specs.Steps.{next_end}
use Rattle.track_runs.proofs.Merging.{merged_later}
use Rattle.track_runs.proofs.ends.push_end.Goals as goal

pub returns-clause-ends : goal.returns-clause-ends
returns-clause-ends c =
    let added : c.push-2.new.self.items ≡ c.args.ends.now.items ++ next_end c.args.attempt (drop c.args.place c.args.later.now) ∷ [] = rw c.next_end.ensures at c.in_ok-push-2.ensures.items in
    λ acked. merged_later c.args.attempt acked c.args.later.now c.args.place c.args.ends.now.items c.push-2.new.self.items c.args.is_acked c.if-is_acked.false added
