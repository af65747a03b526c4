use Rattle.std.proofs.Common.{refl, ◌∙◌, []}
use Rattle.worker_pool.specs.Desks.{IsTaskHeld, task_left}
use Rattle.worker_pool.proofs.Adding.{did-none, did-then}
use Rattle.worker_pool.proofs.Saying.{more-none, more-of, more-then}
use Rattle.worker_pool.proofs.crew.go_on_at.Goals as goal

pub loop-done-init : goal.loop-done-init
loop-done-init g c = record {
  work = c.requires.work;
  numbers = refl;
  did = λ ackers. did-none g.I.Ids.tells c.args.posts.now.plan.now (g.O.RowOp.meaning c.args.custom.now) c.args.desks.now.items ackers c.args.row.now.items;
  many = refl;
  more = more-none task_left c.args.n c.args.desks.now.items c.args.row.now.items;
}

pub loop-done-preserved : goal.loop-done-preserved
loop-done-preserved g c =
    let inv = c.loop-done.invariant in record {
      work = record {
        passes = c.step_at.ensures.passes;
        boxes_are = inv.work.boxes_are;
        desks_are = c.in_ok-did.ensures.desks;
      };
      numbers = c.step_at.ensures.numbers ∙ inv.numbers;
      did = λ ackers. did-then g.I.Ids.tells c.args.posts.now.plan.now (g.O.RowOp.meaning c.args.custom.now) c.args.desks.now.items c.loop-done.desks.items c.step_at.new.desks.items ackers ackers ackers
          c.args.row.now.items c.loop-done.row.items c.step_at.new.row.items (inv.did ackers) (c.in_ok-did.ensures.did ackers);
      many = (c.in_ok-did.ensures.did []).many ∙ inv.many;
      more = more-then task_left c.args.n c.args.desks.now.items c.loop-done.desks.items c.step_at.new.desks.items c.args.row.now.items c.loop-done.row.items c.step_at.new.row.items inv.more
          (more-of task_left IsTaskHeld c.args.n c.in_ok-did.did c.loop-done.desks.items c.step_at.new.desks.items c.loop-done.row.items c.step_at.new.row.items c.in_ok-did.ensures.says);
    }

pub returns-then-not-did-clause-did : goal.returns-then-not-did-clause-did
returns-then-not-did-clause-did g c =
    λ ackers. did-then g.I.Ids.tells c.args.posts.now.plan.now (g.O.RowOp.meaning c.args.custom.now) c.args.desks.now.items c.loop-done.desks.items c.step_at.new.desks.items ackers ackers ackers
    c.args.row.now.items c.loop-done.row.items c.step_at.new.row.items (c.loop-done.invariant.did ackers) (c.in_ok-did.ensures.did ackers)

pub returns-then-not-did-clause-more : goal.returns-then-not-did-clause-more
returns-then-not-did-clause-more g c =
    more-then task_left c.args.n c.args.desks.now.items c.loop-done.desks.items c.step_at.new.desks.items c.args.row.now.items c.loop-done.row.items c.step_at.new.row.items c.loop-done.invariant.more
    (more-of task_left IsTaskHeld c.args.n c.in_ok-did.did c.loop-done.desks.items c.step_at.new.desks.items c.loop-done.row.items c.step_at.new.row.items c.in_ok-did.ensures.says)
