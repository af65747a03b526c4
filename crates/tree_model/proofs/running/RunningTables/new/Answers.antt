use Rattle.std.proofs.Common.{◌≡◌, length, arith}
use Rattle.tree_model.proofs.TablesSoFar.{AreRunningTables-none}
use Rattle.tree_model.proofs.running.RunningTables.new.Goals as goal

pub returns : goal.returns
returns c =
    let all : c.loop.counter ≡ length c.args.plan.now.components = omega (arith, c.components-end.ensures) in
    λ custom. rw (c.loop.invariant, all) (AreRunningTables-none c.args.plan.now custom)
