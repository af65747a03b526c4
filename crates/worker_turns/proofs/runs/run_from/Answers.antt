use Rattle.std.proofs.Common.{◌<◌, ◌∷◌, length, arith}
use Rattle.worker_turns.proofs.Handing.{runs-more, runs-one}
use Rattle.worker_turns.proofs.runs.run_from.Goals as goal

pub loop-left-init : goal.loop-left-init
loop-left-init c = runs-one c.args.plan.now c.args.at c.args.first c.args.left.now.items c.in_ok-made.made c.in_ok-made.ensures c.requires.goes c.requires.fits

pub loop-left-preserved : goal.loop-left-preserved
loop-left-preserved c =
    let below : length c.loop-left.made < 64 = omega arith in
    runs-more c.args.plan.now c.args.at (c.args.first ∷ c.args.left.now.items) c.loop-left.made c.loop-left.left.items c.in-Some.parcel c.next_for.new.left.items c.push.new.self
    c.loop-left.invariant c.in-Some.ensures.front c.in-Some.ensures.goes below c.in_ok-push.ensures.ok
