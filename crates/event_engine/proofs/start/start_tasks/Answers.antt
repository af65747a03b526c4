use Rattle.event_engine.specs.declared.task.TaskSeat.{TaskSeat}
use Rattle.event_engine.proofs.StartLemmas.{first_seat, seats_more}
use Rattle.event_engine.proofs.start.start_tasks.Goals as goal

pub loop-n-preserved : goal.loop-n-preserved
loop-n-preserved g c =
    let kept = c.loop-n.invariant in
    let told = g.N.IdMaker.tells c.args.ids.now in
    let tells = g.N.I.Ids.tells in
    let t = c.args.plan.now in
    let made = c.in_ok-task.ensures in
    let seat : TaskSeat g.row.N-I.Denot g.N.I.Ids = record { task = c.in_ok-task.task; inbox = c.new-in-loop-n.result; outbox = c.new-in-loop-n-2.result } in
    record {
      first =
          rw c.in_ok-push.ensures.items
          (seats_more told tells t c.loop-n.n c.loop-n.tasks.items seat kept.first
          (first_seat told tells t c.loop-n.n c.in_ok-source.source seat made.topology made.component made.number made.started (λ words is. c.in_ok-source.ensures.made words (kept.kept words is)) c.new-in-loop-n.ensures.items c.new-in-loop-n-2.ensures.items));
      kept = λ words is. c.make.ensures.kept words (kept.kept words is);
    }
