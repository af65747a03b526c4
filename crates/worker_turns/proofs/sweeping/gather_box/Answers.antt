use Rattle.std.proofs.Common.{sym, subst}
use Rattle.worker_stretches.proofs.event_engine.LoopLemmas.{ready_there}
use Rattle.worker_stretches.specs.event_engine.Engines.{cut_in}
use Rattle.event_worlds.specs.topology_plan.Topology.{Topology}
use Rattle.worker_turns.specs.Carrying.{FitsMail}
use Rattle.worker_turns.proofs.Sweeps.{engine-carries, fits-true, gathering-end, gathering-more, held-less, others-taken, others-then}
use Rattle.worker_turns.proofs.sweeping.gather_box.Goals as goal

pub put_in-requires-clause-fits : goal.put_in-requires-clause-fits
put_in-requires-clause-fits g c =
    subst (λ (u : Topology). FitsMail u c.in-Some.mail) (sym c.loop-mail.invariant.ready.seated.of_topology) (fits-true c.args.posts.now.plan.now c.args.at c.in-Some.mail c.in-Some.ensures.is_true)

pub loop-mail-smaller : goal.loop-mail-smaller
loop-mail-smaller g c = held-less c.args.posts.now.plan.now c.args.at c.in-Some.mail c.loop-mail.row.items c.take_fit.new.row.items c.in-Some.ensures.is_true c.in-Some.ensures.holds

pub loop-mail-preserved : goal.loop-mail-preserved
loop-mail-preserved g c =
    let t = c.args.posts.now.plan.now in
    let cut = cut_in c.args.engine.now in
    gathering-more t cut c.args.posts.now.boxes.items c.args.at c.args.engine.now c.loop-mail.engine c.put_in.new.engine c.args.row.now.items c.loop-mail.row.items c.take_fit.new.row.items c.in-Some.mail c.loop-mail.invariant
    c.in-Some.ensures.taken c.in-Some.ensures.holds c.take_fit.ensures.row (ready_there t cut c.loop-mail.engine c.loop-mail.invariant.ready c.put_in.new.engine c.in_ok-put_in.ensures.ready) c.put_in.ensures.still c.in_ok-put_in.ensures.sources c.in_ok-put_in.ensures.brings

pub returns-in_err-put_in-clause-others : goal.returns-in_err-put_in-clause-others
returns-in_err-put_in-clause-others g c =
    others-then c.args.at c.args.row.now.items c.loop-mail.row.items c.take_fit.new.row.items c.loop-mail.invariant.others (others-taken c.args.at c.in-Some.mail c.loop-mail.row.items c.take_fit.new.row.items c.in-Some.ensures.taken)

pub returns-clause-carries : goal.returns-clause-carries
returns-clause-carries g c = λ left.
    let t = c.args.posts.now.plan.now in
    let cut = cut_in c.args.engine.now in
    engine-carries t cut c.args.posts.now.boxes.items c.args.at c.args.engine.now c.loop-mail.engine c.args.row.now.items c.take_fit.new.row.items left
    (gathering-end t cut c.args.posts.now.boxes.items c.args.at c.args.engine.now c.loop-mail.engine c.args.row.now.items c.loop-mail.row.items c.take_fit.new.row.items c.loop-mail.invariant c.in_default.ensures.same c.take_fit.ensures.row)
