use Rattle.std.proofs.Common.{rules, ◌≡◌, length, vec_len, ◌∙◌, arith}
use Rattle.crossbeam_queue.specs.Passes.{view}
use Rattle.task_queues.proofs.Steps.{takes, stands}
use Rattle.task_queues.proofs.Draining.{drain_begins, named_now, some_now, drain_fits, drain_more, drain_nears, drain_ends}
use Rattle.task_queues.proofs.mailbox.drain.Goals as goal

pub learn_as-requires-clause-rule : goal.learn_as-requires-clause-rule
learn_as-requires-clause-rule g c = stands g.M.Truth.is_true _ _ c.requires.named

pub loop-message-init : goal.loop-message-init
loop-message-init g c = (
  (c.learn_as.ensures.queue.0.0 ∙ c.requires.queue.0, c.learn_as.ensures.queue.0.2 ∙ c.requires.queue.1),
  drain_begins g.M.Truth.is_true (view c.args.pass) (view c.learn_as.new.pass) c.args.room.items c.learn_as.ensures.queue.1 c.requires.named c.requires.some_book c.requires.whole c.learn_as.ensures.rule.0 c.learn_as.ensures.rule.1 c.requires.empty,
  (let e = c.requires.capacity in let r = c.requires.room in omega arith),
)

pub pop_as-requires-clause-rule : goal.pop_as-requires-clause-rule
pop_as-requires-clause-rule g c =
    let drains = c.loop-message.invariant.1 in
    let named = named_now g.M.Truth.is_true (view c.args.pass) (view c.loop-message.pass) c.loop-message.room.items drains in
    let some_book = some_now g.M.Truth.is_true (view c.args.pass) (view c.loop-message.pass) c.loop-message.room.items drains in
    (takes g.M.Truth.is_true _ _ named some_book, stands g.M.Truth.is_true _ _ named)

pub push_reserved-requires : goal.push_reserved-requires
push_reserved-requires g c =
    let fits = drain_fits g.M.Truth.is_true (view c.args.pass) (view c.loop-message.pass) c.loop-message.room.items c.loop-message.invariant.1 c.in-Some.message (view c.pop_as.new.pass) c.in-Some.ensures.rule in
    let room = c.loop-message.invariant.2 in
    let len : vec_len c.loop-message.room ≡ length c.loop-message.room.items = search rules in
    omega arith

pub loop-message-smaller : goal.loop-message-smaller
loop-message-smaller g c =
    drain_nears g.M.Truth.is_true (view c.args.pass) (view c.loop-message.pass) c.loop-message.room.items c.loop-message.invariant.1 c.in-Some.message (view c.pop_as.new.pass) c.in-Some.ensures.rule

pub loop-message-preserved : goal.loop-message-preserved
loop-message-preserved g c = (
  (c.pop_as.ensures.queue.0 ∙ c.loop-message.invariant.0.0, c.pop_as.ensures.queue.2 ∙ c.loop-message.invariant.0.1),
  drain_more g.M.Truth.is_true (view c.args.pass) (view c.loop-message.pass) c.loop-message.room.items c.loop-message.invariant.1 c.in-Some.message (view c.pop_as.new.pass) c.in-Some.ensures.rule c.push_reserved.new.self.items c.push_reserved.ensures.items,
  (let e = c.push_reserved.ensures.capacity in let r = c.loop-message.invariant.2 in omega arith),
)

pub returns-clause-left : goal.returns-clause-left
returns-clause-left g c =
    let none = c.in_default.ensures.rule.1 in
    drain_ends g.M.Truth.is_true (view c.args.pass) (view c.loop-message.pass) c.loop-message.room.items c.loop-message.invariant.1 none.0 none.1 none.2
