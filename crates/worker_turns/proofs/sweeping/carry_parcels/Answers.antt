use Rattle.std.proofs.Common.{rules, ◌≡◌, ◌∷◌}
use Rattle.worker_stretches.specs.box_rows.declared.mail.Mail.TheVariants as mail
use Rattle.worker_stretches.specs.event_engine.Engines.{cut_in}
use Rattle.worker_turns.specs.Carrying.{weigh_all}
use Rattle.worker_turns.proofs.Sweeps.{carrying-more, run-less}
use Rattle.worker_turns.proofs.sweeping.carry_parcels.Goals as goal

pub loop-first-preserved : goal.loop-first-preserved
loop-first-preserved g c =
    let front : c.loop-first.left.items ≡ c.in-Some.first ∷ c.pop_front.new.self.items = search rules in
    let did = c.in_ok-carry.ensures in record {
      carrying =
          carrying-more c.args.posts.now.plan.now (cut_in c.args.engine.now) c.args.posts.now.boxes.items c.args.engine.now c.loop-first.engine c.carry.new.engine c.args.row.now.items c.loop-first.row.items c.carry.new.row.items
          (weigh_all c.args.parcels.items) (weigh_all c.loop-first.left.items) (weigh_all c.run_from.new.left.items) (mail.Run c.in_ok-run.run') c.loop-first.invariant.carrying did.ready c.carry.ensures.row c.carry.ensures.still did.empty c.carry.ensures.room did.swept did.carries
          (run-less c.loop-first.left.items c.pop_front.new.self.items c.in_ok-run.run' c.run_from.new.left.items c.in-Some.first front c.in_ok-run.ensures.front);
      fits = c.in_ok-run.ensures.fits;
    }
