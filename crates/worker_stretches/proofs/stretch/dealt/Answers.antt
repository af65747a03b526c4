use Rattle.worker_stretches.proofs.Gathering.{hands-dealt}
use Rattle.worker_stretches.proofs.stretch.dealt.Goals as goal

pub returns-clause-hands : goal.returns-clause-hands
returns-clause-hands g c =
    hands-dealt c.args.plan.now c.in_ok-desks.desks.items c.in_ok-places.places.items c.in_ok-hands.hands.items c.in_ok-offices.offices.items c.args.workers c.in_ok-desks.ensures.desks c.in_ok-places.ensures.desks
    c.in_ok-hands.ensures.dealt c.in_ok-offices.ensures.dealt c.in_ok-hands.ensures.many c.in_ok-offices.ensures.many
