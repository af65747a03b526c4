use Rattle.std.proofs.Common.{subst, ◌∙◌}
use Rattle.worker_pool.specs.Workers.{Turned}
use Rattle.worker_pool.proofs.Adding.{did-then}
use Rattle.worker_pool.proofs.Boarding.{keeps-then, turned-then}
use Rattle.worker_pool.proofs.worker.Worker.busy_turn.Goals as goal

pub loop-init : goal.loop-init
loop-init g c = record {
  work = c.in_ok-at_once.ensures.work;
  keeps = c.turn.ensures.keeps;
  did = c.in_ok-at_once.ensures.did;
  turned = subst (λ b. Turned c.args.posts.now.plan.now b c.args.self.now c.turn.new.self) c.if-at_once.false c.in_ok-at_once.ensures.turned;
  wants = c.turn.ensures.wants;
  turns = c.turn.ensures.turns;
}

pub loop-preserved : goal.loop-preserved
loop-preserved g c =
    let inv = c.loop.invariant in
    let turn = c.turn-in-loop.ensures in
    let ok = c.in_ok-did.ensures in record {
      work = ok.work;
      keeps = keeps-then c.args.posts.now.plan.now c.args.posts.now.boxes.items c.args.board.now c.args.self.now c.loop.self c.turn-in-loop.new.self inv.keeps turn.keeps;
      did = did-then g.I.Ids.tells c.args.posts.now.plan.now (g.O.RowOp.meaning c.args.custom.now) c.args.self.now.desks.items c.loop.self.desks.items c.turn-in-loop.new.self.desks.items c.args.self.now.ackers.items c.loop.self.ackers.items c.turn-in-loop.new.self.ackers.items
          c.args.self.now.row.items c.loop.self.row.items c.turn-in-loop.new.self.row.items inv.did ok.did;
      turned = subst (λ b. Turned c.args.posts.now.plan.now b c.args.self.now c.turn-in-loop.new.self) c.if-did.false (turned-then c.args.posts.now.plan.now c.in_ok-did.did c.args.self.now c.loop.self c.turn-in-loop.new.self turn.keeps.book inv.turned ok.turned);
      wants = turn.wants ∙ inv.wants;
      turns = turn.turns ∙ inv.turns;
    }

pub returns-then-did-clause-did : goal.returns-then-did-clause-did
returns-then-did-clause-did g c =
    did-then g.I.Ids.tells c.args.posts.now.plan.now (g.O.RowOp.meaning c.args.custom.now) c.args.self.now.desks.items c.loop.self.desks.items c.turn-in-loop.new.self.desks.items c.args.self.now.ackers.items c.loop.self.ackers.items c.turn-in-loop.new.self.ackers.items
    c.args.self.now.row.items c.loop.self.row.items c.turn-in-loop.new.self.row.items c.loop.invariant.did c.in_ok-did.ensures.did

pub returns-then-did-clause-keeps : goal.returns-then-did-clause-keeps
returns-then-did-clause-keeps g c =
    keeps-then c.args.posts.now.plan.now c.args.posts.now.boxes.items c.args.board.now c.args.self.now c.loop.self c.turn-in-loop.new.self c.loop.invariant.keeps c.turn-in-loop.ensures.keeps

pub returns-then-did-clause-turned : goal.returns-then-did-clause-turned
returns-then-did-clause-turned g c =
    subst (λ b. Turned c.args.posts.now.plan.now b c.args.self.now c.turn-in-loop.new.self) c.if-did.true
    (turned-then c.args.posts.now.plan.now c.in_ok-did.did c.args.self.now c.loop.self c.turn-in-loop.new.self c.turn-in-loop.ensures.keeps.book c.loop.invariant.turned c.in_ok-did.ensures.turned)
