use Rattle.std.proofs.Common.{◌≡◌, ◌+◌, ◌-◌, [], ◌∷◌, refl, subst, ◌∙◌, arith}
use Rattle.output_collector.specs.Sending.{Sends, sent}
use Rattle.output_collector.proofs.Sending.{Sends-none, Sends-more, BeginsWith-then, BeginsWith-itself}
use Rattle.output_collector.proofs.collector.Collector.send_from.Goals as goal

pub loop-task-init : goal.loop-task-init
loop-task-init g c =
    let none : c.args.first.task - c.args.first.task ≡ 0 = omega arith in
    record {
      sends = rw none (Sends-none g.I.Ids.tells c.args.below.now.root c.args.below.now.path.now (sent c.args.self.now c.args.edges.now c.args.into.now));
      outlet = refl;
      source = refl;
      kept = BeginsWith-itself c.args.into.now;
    }

pub loop-task-preserved : goal.loop-task-preserved
loop-task-preserved g c =
    let first = c.args.first.task in
    let now = sent c.loop-task.self c.loop-task.edges c.loop-task.into in
    let next = sent c.send.new.self c.send.new.edges c.send.new.into in
    let at : c.loop-task.task ≡ first + (c.loop-task.task - first) = omega arith in
    let more : c.loop-task.task + 1 - first ≡ c.loop-task.task - first + 1 = omega arith in
    let copied : Sends g.I.Ids.tells c.args.below.now.root c.args.below.now.path.now (record { component = c.args.first.component; row = c.args.row.now } ∷ []) (c.loop-task.task ∷ []) now next =
    subst (λ row. Sends g.I.Ids.tells c.args.below.now.root c.args.below.now.path.now (record { component = c.args.first.component; row = row } ∷ []) (c.loop-task.task ∷ []) now next) c.in_ok-copy.ensures c.in_ok-send.ensures.sends in
    let late = subst (λ task. Sends g.I.Ids.tells c.args.below.now.root c.args.below.now.path.now (record { component = c.args.first.component; row = c.args.row.now } ∷ []) (task ∷ []) now next) at copied in
    record {
      sends = rw more (Sends-more g.I.Ids.tells c.args.below.now.root c.args.below.now.path.now c.args.first.component first (c.loop-task.task - first) c.args.row.now (sent c.args.self.now c.args.edges.now c.args.into.now) now next c.loop-task.invariant.sends late);
      outlet = c.send.ensures.outlet ∙ c.loop-task.invariant.outlet;
      source = c.send.ensures.source ∙ c.loop-task.invariant.source;
      kept = BeginsWith-then c.args.into.now c.loop-task.into c.send.new.into c.loop-task.invariant.kept c.send.ensures.kept;
    }
