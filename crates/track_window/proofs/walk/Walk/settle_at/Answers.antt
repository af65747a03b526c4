use Rattle.std.proofs.Common.{ℕ, subst}
use Rattle.track_window.specs.Jobs.{IsSafe}
use Rattle.track_window.proofs.walk.Walk.settle_at.Goals as goal

pub settle-requires-clause-safe : goal.settle-requires-clause-safe
settle-requires-clause-safe g c = λ κs within. subst (λ (n : ℕ). IsSafe c.args.plan.now n c.args.job.tuple c.args.job.found) c.requires.count c.requires.safe
