use Rattle.std.proofs.Common.{rules, ◌≡◌, length, refl, ◌∙◌, arith}
use Rattle.worker_pool.specs.Ackers.{IsAckerHeld, acker_left}
use Rattle.worker_pool.proofs.Acking.{acker_stays_held, counted-more, counted-none, counted-all}
use Rattle.worker_pool.proofs.Adding.{ackers-many, ackers-none, ackers-then}
use Rattle.worker_pool.proofs.Saying.{up-all, up-more, up-none}
use Rattle.worker_pool.proofs.crew.turn_of_ackers.Goals as goal

pub loop-n-init : goal.loop-n-init
loop-n-init g c = record {
  work = c.requires.work;
  numbers = refl;
  did = ackers-none c.args.posts.now.plan.now c.args.ackers.now.items c.args.row.now.items;
  many = refl;
  up = up-none acker_left (IsAckerHeld c.args.posts.now.plan.now) c.args.ackers.now.items c.args.row.now.items;
  counted = counted-none c.args.tick c.args.ackers.now.items;
}

pub loop-n-preserved : goal.loop-n-preserved
loop-n-preserved g c =
    let inv = c.loop-n.invariant in
    let ok = c.in_ok-moved.ensures in record {
      work = record {
        passes = c.turn_at.ensures.passes;
        boxes_are = inv.work.boxes_are;
        ackers_are = ok.ackers;
      };
      numbers = c.turn_at.ensures.numbers ∙ inv.numbers;
      did = ackers-then c.args.posts.now.plan.now c.args.ackers.now.items c.loop-n.ackers.items c.turn_at.new.ackers.items
          c.args.row.now.items c.loop-n.row.items c.turn_at.new.row.items inv.did ok.did;
      many = ackers-many c.args.posts.now.plan.now c.loop-n.ackers.items c.turn_at.new.ackers.items c.loop-n.row.items c.turn_at.new.row.items ok.did ∙ inv.many;
      up = up-more acker_left (IsAckerHeld c.args.posts.now.plan.now) (acker_stays_held c.args.posts.now.plan.now) c.loop-n.n c.loop-n.moved c.in_ok-moved.field-0 c.args.ackers.now.items c.loop-n.ackers.items c.turn_at.new.ackers.items
          c.args.row.now.items c.loop-n.row.items c.turn_at.new.row.items inv.up ok.says;
      counted = counted-more c.args.tick c.loop-n.n c.args.ackers.now.items c.loop-n.ackers.items c.turn_at.new.ackers.items inv.counted ok.says.others ok.counted;
    }

pub returns-clause-says : goal.returns-clause-says
returns-clause-says g c =
    let len : c.len-n-end.result ≡ length c.args.ackers.now.items = search rules in
    up-all acker_left (IsAckerHeld c.args.posts.now.plan.now) c.loop-n.n c.loop-n.moved c.args.ackers.now.items c.loop-n.ackers.items c.args.row.now.items c.loop-n.row.items
    (let end = c.loop-n-test.false in let many = c.loop-n.invariant.many in omega arith) c.loop-n.invariant.up

pub returns-clause-counted : goal.returns-clause-counted
returns-clause-counted g c =
    let len : c.len-n-end.result ≡ length c.args.ackers.now.items = search rules in
    counted-all c.args.tick c.loop-n.n c.args.ackers.now.items c.loop-n.ackers.items (let end = c.loop-n-test.false in omega arith) c.loop-n.invariant.many c.loop-n.invariant.counted
