use Rattle.std.proofs.Common.{◌∙◌}
use Rattle.worker_pool.proofs.Adding.{did-ackers, did-then}
use Rattle.pulse_board.specs.Seats.{book_of}
use Rattle.worker_pool.proofs.Boarding.{book-looked, looked-seen, turned-both}
use Rattle.worker_pool.proofs.worker.Worker.turn.Goals as goal

pub returns-clause-did : goal.returns-clause-did
returns-clause-did g c =
    did-then g.I.Ids.tells c.args.posts.now.plan.now (g.O.RowOp.meaning c.args.custom.now) c.args.self.now.desks.items c.turn_of_tasks.new.desks.items c.turn_of_tasks.new.desks.items
    c.args.self.now.ackers.items c.args.self.now.ackers.items c.turn_of_ackers.new.ackers.items
    c.args.self.now.row.items c.turn_of_tasks.new.row.items c.turn_of_ackers.new.row.items
    (c.in_ok-worked.ensures.did c.args.self.now.ackers.items)
    (did-ackers g.I.Ids.tells c.args.posts.now.plan.now (g.O.RowOp.meaning c.args.custom.now) c.turn_of_tasks.new.desks.items c.args.self.now.ackers.items c.turn_of_ackers.new.ackers.items c.turn_of_tasks.new.row.items c.turn_of_ackers.new.row.items c.in_ok-met.ensures.did)

pub returns-clause-keeps : goal.returns-clause-keeps
returns-clause-keeps g c = record {
  passes = c.turn_of_ackers.ensures.passes;
  numbers = c.turn_of_ackers.ensures.numbers ∙ c.turn_of_tasks.ensures.numbers;
  seat = c.ticks-tick.ensures.seat;
  book = book-looked _ _ c.ticks-tick.result c.ticks-tick.ensures.book c.ticks-tick.ensures.seen c.ticks-tick.ensures.grows;
}

pub returns-clause-turned : goal.returns-clause-turned
returns-clause-turned g c =
    turned-both c.args.posts.now.plan.now c.in_ok-worked.worked c.in_ok-met.met c.args.self.now _ c.turn_of_tasks.new.row.items c.in_ok-worked.ensures.says c.in_ok-met.ensures.says
    (looked-seen (book_of c.ticks-tick.new.seat) c.ticks-tick.result c.args.self.now.ackers.items c.turn_of_ackers.new.ackers.items c.ticks-tick.ensures.seen c.in_ok-met.ensures.counted)
