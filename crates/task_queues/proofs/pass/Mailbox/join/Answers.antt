use Rattle.std.proofs.Common.{length, ap, ◌∙◌, arith}
use Rattle.crossbeam_queue.specs.Passes.{view}
use Rattle.task_queues.proofs.Steps.{merges, stands}
use Rattle.task_queues.proofs.Exact.{join_others, joined_fresh, joined_some}
use Rattle.task_queues.proofs.Looking.{joined_rest, joined_few, joined_whole}
use Rattle.task_queues.proofs.pass.Mailbox.join.Goals as goal

pub absorb-requires-clause-rule : goal.absorb-requires-clause-rule
absorb-requires-clause-rule g c = merges g.M.Truth.is_true _ _ _ _ c.args.into.now.named c.args.into.now.some_book

pub learn_as-requires-clause-rule : goal.learn_as-requires-clause-rule
learn_as-requires-clause-rule g c = stands g.M.Truth.is_true _ _ (joined_fresh (view c.args.into.now.inner) (view c.args.other.inner) _ c.args.into.now.named c.absorb.ensures.rule)

pub overflow_add-into : goal.overflow_add-into
overflow_add-into g c =
    let few = joined_few g.M.Truth.is_true (view c.args.into.now.inner) (view c.args.other.inner) _ c.absorb.ensures.rule c.learn_as.ensures.rule.0 c.learn_as.ensures.rule.1 in
    let mine = c.args.into.now.share_is in
    let theirs = c.args.other.share_is in omega arith

pub invariant_of-into : goal.invariant_of-into
invariant_of-into g c =
    let is = c.learn_as.ensures.queue.1 ∙ c.absorb.ensures.rule in
    let mine = c.args.into.now.share_is in
    let theirs = c.args.other.share_is in record {
      no_slot = ap length (c.learn_as.ensures.queue.0.2 ∙ c.absorb.ensures.queue.2) ∙ c.args.into.now.no_slot;
      named = joined_fresh (view c.args.into.now.inner) (view c.args.other.inner) _ c.args.into.now.named is;
      some_book = joined_some (view c.args.into.now.inner) (view c.args.other.inner) (view c.learn_as.new.pass) c.args.into.now.some_book is;
      share_is = let sum = ap (λ v. v.share) is in omega arith;
      all_is_whole = joined_whole g.M.Truth.is_true _ (view c.learn_as.new.pass) c.learn_as.ensures.queue.1 c.learn_as.ensures.rule.0 c.learn_as.ensures.rule.1;
    }

pub returns-clause-whole : goal.returns-clause-whole
returns-clause-whole g c =
    joined_rest g.M.Truth.is_true _ (view c.learn_as.new.pass) c.learn_as.ensures.queue.1
    (joined_some (view c.args.into.now.inner) (view c.args.other.inner) (view c.absorb.new.pass) c.args.into.now.some_book c.absorb.ensures.rule) c.learn_as.ensures.rule.0 c.learn_as.ensures.rule.1

pub returns-clause-numbered : goal.returns-clause-numbered
returns-clause-numbered g c = λ others.
    join_others (view c.args.into.now.inner) (view c.args.other.inner) (view c.learn_as.new.pass) others (c.learn_as.ensures.queue.1 ∙ c.absorb.ensures.rule)
