use Rattle.std.proofs.Common.{refl, ◌∙◌}
use Rattle.worker_pool.specs.Ackers.{IsAckerHeld, acker_left}
use Rattle.worker_pool.proofs.Adding.{ackers-many, ackers-none, ackers-then}
use Rattle.worker_pool.proofs.Saying.{more-none, more-of, more-then}
use Rattle.worker_pool.proofs.crew.keep_on_at.Goals as goal

pub loop-done-init : goal.loop-done-init
loop-done-init g c = record {
  work = c.requires.work;
  numbers = refl;
  did = ackers-none c.args.posts.now.plan.now c.args.ackers.now.items c.args.row.now.items;
  many = refl;
  more = more-none acker_left c.args.n c.args.ackers.now.items c.args.row.now.items;
  counted = λ tick has. has;
}

pub loop-done-preserved : goal.loop-done-preserved
loop-done-preserved g c =
    let inv = c.loop-done.invariant in record {
      work = record {
        passes = c.note_at.ensures.passes;
        boxes_are = inv.work.boxes_are;
        ackers_are = c.in_ok-did.ensures.ackers;
      };
      numbers = c.note_at.ensures.numbers ∙ inv.numbers;
      did = ackers-then c.args.posts.now.plan.now c.args.ackers.now.items c.loop-done.ackers.items c.note_at.new.ackers.items
          c.args.row.now.items c.loop-done.row.items c.note_at.new.row.items inv.did c.in_ok-did.ensures.did;
      many = ackers-many c.args.posts.now.plan.now c.loop-done.ackers.items c.note_at.new.ackers.items c.loop-done.row.items c.note_at.new.row.items c.in_ok-did.ensures.did ∙ inv.many;
      more = more-then acker_left c.args.n c.args.ackers.now.items c.loop-done.ackers.items c.note_at.new.ackers.items c.args.row.now.items c.loop-done.row.items c.note_at.new.row.items inv.more
          (more-of acker_left (IsAckerHeld c.args.posts.now.plan.now) c.args.n c.in_ok-did.did c.loop-done.ackers.items c.note_at.new.ackers.items c.loop-done.row.items c.note_at.new.row.items c.in_ok-did.ensures.says);
      counted = λ tick has. c.in_ok-did.ensures.counted tick (inv.counted tick has);
    }

pub returns-then-not-did-clause-did : goal.returns-then-not-did-clause-did
returns-then-not-did-clause-did g c =
    ackers-then c.args.posts.now.plan.now c.args.ackers.now.items c.loop-done.ackers.items c.note_at.new.ackers.items
    c.args.row.now.items c.loop-done.row.items c.note_at.new.row.items c.loop-done.invariant.did c.in_ok-did.ensures.did

pub returns-then-not-did-clause-more : goal.returns-then-not-did-clause-more
returns-then-not-did-clause-more g c =
    more-then acker_left c.args.n c.args.ackers.now.items c.loop-done.ackers.items c.note_at.new.ackers.items c.args.row.now.items c.loop-done.row.items c.note_at.new.row.items c.loop-done.invariant.more
    (more-of acker_left (IsAckerHeld c.args.posts.now.plan.now) c.args.n c.in_ok-did.did c.loop-done.ackers.items c.note_at.new.ackers.items c.loop-done.row.items c.note_at.new.row.items c.in_ok-did.ensures.says)

pub returns-then-not-did-clause-counted : goal.returns-then-not-did-clause-counted
returns-then-not-did-clause-counted g c = λ tick has. c.in_ok-did.ensures.counted tick (c.loop-done.invariant.counted tick has)
