use Rattle.std.proofs.Common.{rules, ◌≡◌, length, refl, ◌∙◌, [], arith}
use Rattle.worker_pool.specs.Desks.{IsTaskHeld, task_left}
use Rattle.worker_pool.proofs.Adding.{did-none, did-then}
use Rattle.worker_pool.proofs.Desking.{task_stays_held}
use Rattle.worker_pool.proofs.Saying.{up-all, up-more, up-none}
use Rattle.worker_pool.proofs.crew.turn_of_tasks.Goals as goal

pub loop-n-init : goal.loop-n-init
loop-n-init g c = record {
  work = c.requires.work;
  numbers = refl;
  did = λ ackers. did-none g.I.Ids.tells c.args.posts.now.plan.now (g.O.RowOp.meaning c.args.custom.now) c.args.desks.now.items ackers c.args.row.now.items;
  many = refl;
  up = up-none task_left IsTaskHeld c.args.desks.now.items c.args.row.now.items;
}

pub loop-n-preserved : goal.loop-n-preserved
loop-n-preserved g c =
    let inv = c.loop-n.invariant in
    let ok = c.in_ok-moved.ensures in record {
      work = record {
        passes = c.work_at.ensures.passes;
        boxes_are = inv.work.boxes_are;
        desks_are = ok.desks;
      };
      numbers = c.work_at.ensures.numbers ∙ inv.numbers;
      did = λ ackers. did-then g.I.Ids.tells c.args.posts.now.plan.now (g.O.RowOp.meaning c.args.custom.now) c.args.desks.now.items c.loop-n.desks.items c.work_at.new.desks.items ackers ackers ackers
          c.args.row.now.items c.loop-n.row.items c.work_at.new.row.items (inv.did ackers) (ok.did ackers);
      many = (ok.did []).many ∙ inv.many;
      up = up-more task_left IsTaskHeld task_stays_held c.loop-n.n c.loop-n.moved c.in_ok-moved.field-0 c.args.desks.now.items c.loop-n.desks.items c.work_at.new.desks.items
          c.args.row.now.items c.loop-n.row.items c.work_at.new.row.items inv.up ok.says;
    }

pub returns-clause-says : goal.returns-clause-says
returns-clause-says g c =
    let len : c.len-n-end.result ≡ length c.args.desks.now.items = search rules in
    up-all task_left IsTaskHeld c.loop-n.n c.loop-n.moved c.args.desks.now.items c.loop-n.desks.items c.args.row.now.items c.loop-n.row.items
    (let end = c.loop-n-test.false in let many = c.loop-n.invariant.many in omega arith) c.loop-n.invariant.up
