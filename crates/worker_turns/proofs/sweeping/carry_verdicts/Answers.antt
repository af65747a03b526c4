use Rattle.std.proofs.Common.{rules, ◌≡◌, ◌∷◌}
use Rattle.worker_stretches.specs.box_rows.declared.mail.Mail.TheVariants as mail
use Rattle.worker_stretches.specs.event_engine.Engines.{cut_in}
use Rattle.worker_turns.specs.Carrying.{weigh_verdicts}
use Rattle.worker_turns.proofs.Sweeps.{carrying-more, verdict-less}
use Rattle.worker_turns.proofs.sweeping.carry_verdicts.Goals as goal

pub loop-verdict-preserved : goal.loop-verdict-preserved
loop-verdict-preserved g c =
    let front : c.loop-verdict.left.items ≡ c.in-Some.verdict ∷ c.pop_front.new.self.items = search rules in
    let did = c.in_ok-carry.ensures in
    carrying-more c.args.posts.now.plan.now (cut_in c.args.engine.now) c.args.posts.now.boxes.items c.args.engine.now c.loop-verdict.engine c.carry.new.engine c.args.row.now.items c.loop-verdict.row.items c.carry.new.row.items
    (weigh_verdicts c.args.verdicts.items) (weigh_verdicts c.loop-verdict.left.items) (weigh_verdicts c.pop_front.new.self.items) (mail.Verdict c.in-Some.verdict) c.loop-verdict.invariant did.ready c.carry.ensures.row c.carry.ensures.still did.empty c.carry.ensures.room did.swept did.carries
    (verdict-less c.loop-verdict.left.items c.pop_front.new.self.items c.in-Some.verdict front)
