use Rattle.std.proofs.Common.{rules, ◌≡◌, ◌+◌, ℕ, true, false, inl, inr, refl, subst, ap, ◌∙◌, arith}
use Rattle.pulse_board.specs.declared.rule.Book.{Book}
use Rattle.worker_pool.specs.Workers.{Turned, most_turns}
use Rattle.worker_pool.proofs.Boarding.{Going, going-counted, going-looked, going-start, going-turn, stretched, stretched-short}
use Rattle.worker_pool.proofs.worker.Worker.stretch.Goals as goal

pub loop-done-init : goal.loop-done-init
loop-done-init g c = record {
  going = going-start g.I.Ids.tells c.args.posts.now.plan.now c.args.posts.now.boxes.items c.args.board.now (g.O.RowOp.meaning c.args.custom.now) c.args.self.now 0 c.requires.work;
  turns = refl;
  wants = c.requires.fine;
}

pub loop-done-preserved : goal.loop-done-preserved
loop-done-preserved g c =
    let seen = going-looked g.I.Ids.tells c.args.posts.now.plan.now c.args.posts.now.boxes.items c.args.board.now (g.O.RowOp.meaning c.args.custom.now) c.loop-done.done c.args.self.now c.loop-done.self c.halted.new.seat c.halted.result c.loop-done.invariant.going c.halted.ensures.seat c.halted.ensures.book in
    let ok = c.in-Ok-true.ensures in
    let done : c.in-Ok-true.field-0 ≡ true = search rules in
    let went = going-turn g.I.Ids.tells c.args.posts.now.plan.now c.args.posts.now.boxes.items c.args.board.now (g.O.RowOp.meaning c.args.custom.now) c.loop-done.done true c.args.self.now (record c.loop-done.self { seat = c.halted.new.seat }) c.busy_turn.new.self seen c.busy_turn.ensures.keeps ok.work ok.did
    (subst (λ b. Turned c.args.posts.now.plan.now b (record c.loop-done.self { seat = c.halted.new.seat }) c.busy_turn.new.self) done ok.turned) in record {
      going = going-counted g.I.Ids.tells c.args.posts.now.plan.now c.args.posts.now.boxes.items c.args.board.now (g.O.RowOp.meaning c.args.custom.now) (c.loop-done.done + 1) (c.loop-done.done + 1) c.args.self.now c.busy_turn.new.self went;
      turns = refl;
      wants = c.busy_turn.ensures.wants ∙ c.loop-done.invariant.wants;
    }

pub returns-then-halted : goal.returns-then-halted
returns-then-halted g c =
    let seen = going-looked g.I.Ids.tells c.args.posts.now.plan.now c.args.posts.now.boxes.items c.args.board.now (g.O.RowOp.meaning c.args.custom.now) c.loop-done.done c.args.self.now c.loop-done.self c.halted.new.seat c.halted.result c.loop-done.invariant.going c.halted.ensures.seat c.halted.ensures.book in
    stretched g.I.Ids.tells c.args.posts.now.plan.now c.args.posts.now.boxes.items c.args.board.now (g.O.RowOp.meaning c.args.custom.now) c.loop-done.done c.args.self.now (record c.loop-done.self { seat = c.halted.new.seat }) seen c.loop-done.invariant.wants c.loop-done.invariant.turns
    (record { is = inl (ap (λ (b : Book). b.halted) c.halted.ensures.book ∙ c.if-halted.true) })

pub returns-in-Ok-false : goal.returns-in-Ok-false
returns-in-Ok-false g c =
    let seen = going-looked g.I.Ids.tells c.args.posts.now.plan.now c.args.posts.now.boxes.items c.args.board.now (g.O.RowOp.meaning c.args.custom.now) c.loop-done.done c.args.self.now c.loop-done.self c.halted.new.seat c.halted.result c.loop-done.invariant.going c.halted.ensures.seat c.halted.ensures.book in
    let ok = c.in-Ok-false.ensures in
    let done : c.in-Ok-false.field-0 ≡ false = search rules in
    let turned = subst (λ b. Turned c.args.posts.now.plan.now b (record c.loop-done.self { seat = c.halted.new.seat }) c.busy_turn.new.self) done ok.turned in
    let went = going-turn g.I.Ids.tells c.args.posts.now.plan.now c.args.posts.now.boxes.items c.args.board.now (g.O.RowOp.meaning c.args.custom.now) c.loop-done.done false c.args.self.now (record c.loop-done.self { seat = c.halted.new.seat }) c.busy_turn.new.self seen c.busy_turn.ensures.keeps ok.work ok.did turned in
    let same : c.loop-done.done + 0 ≡ c.loop-done.done = omega arith in
    stretched g.I.Ids.tells c.args.posts.now.plan.now c.args.posts.now.boxes.items c.args.board.now (g.O.RowOp.meaning c.args.custom.now) c.loop-done.done c.args.self.now c.busy_turn.new.self
    (subst (λ (n : ℕ). Going g.I.Ids.tells c.args.posts.now.plan.now c.args.posts.now.boxes.items c.args.board.now (g.O.RowOp.meaning c.args.custom.now) n c.args.self.now c.busy_turn.new.self) same went)
    (c.busy_turn.ensures.wants ∙ c.loop-done.invariant.wants) (c.busy_turn.ensures.turns ∙ c.loop-done.invariant.turns)
    (record { is = inr (inl (turned.held refl)) })

pub returns-in-Err : goal.returns-in-Err
returns-in-Err g c =
    let seen = going-looked g.I.Ids.tells c.args.posts.now.plan.now c.args.posts.now.boxes.items c.args.board.now (g.O.RowOp.meaning c.args.custom.now) c.loop-done.done c.args.self.now c.loop-done.self c.halted.new.seat c.halted.result c.loop-done.invariant.going c.halted.ensures.seat c.halted.ensures.book in
    stretched-short g.I.Ids.tells c.args.posts.now.plan.now c.args.posts.now.boxes.items c.args.board.now (g.O.RowOp.meaning c.args.custom.now) c.loop-done.done c.args.self.now (record c.loop-done.self { seat = c.halted.new.seat }) c.busy_turn.new.self c.halt.new.seat seen c.busy_turn.ensures.keeps c.halt.ensures.seat c.halt.ensures.book

pub returns : goal.returns
returns g c =
    stretched g.I.Ids.tells c.args.posts.now.plan.now c.args.posts.now.boxes.items c.args.board.now (g.O.RowOp.meaning c.args.custom.now) c.loop-done.done c.args.self.now c.loop-done.self c.loop-done.invariant.going c.loop-done.invariant.wants c.loop-done.invariant.turns
    (record { is = inr (inr (c.loop-done.invariant.turns ∙ (let end = c.loop-done-test.false in let most = c.loop-done.auto.done-end in let e : c.loop-done.done ≡ most_turns = omega arith in e))) })
