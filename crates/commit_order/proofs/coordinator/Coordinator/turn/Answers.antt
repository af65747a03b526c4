use Rattle.std.proofs.Common.{sym, ◌∙◌}
use Rattle.commit_order.proofs.Turning.{ok_of, turns_to}
use Rattle.commit_order.proofs.coordinator.Coordinator.turn.Goals as goal

pub returns-in-Ok-clause-turned : goal.returns-in-Ok-clause-turned
returns-in-Ok-clause-turned g c = λ goes.
    let heard = ok_of c.listen.result (sym c.is_err.ensures.value ∙ c.if-is_err.false) c.listen.ensures.ok in
    let to = c.in-Ok.ensures in
    turns_to g.I.Ids.tells c.args.verdict c.args.ticks c.args.shut c.args.self.now c.order_and_fill.new.self c.listen.new.self c.in-Ok.orders goes
    heard.office (sym c.exhausted.ensures ∙ c.in_default-exhausted.is) to.office to.commit to.begun to.has_memory
