use Rattle.std.proofs.Common.{ap, rules}
use Rattle.pass_numbers.specs.Numbers.{IsWhole}
use Rattle.box_rows.specs.Mails.{IsTrueMail}
use Rattle.box_rows.proofs.Changing.{at_view_set, pass_for, passes_change, row_same}
use Rattle.task_queues.specs.Books.{numbers_of}
use Rattle.task_queues.specs.Whole.{HoldsRest}
use Rattle.box_rows.proofs.fit.look_at.Goals as goal

pub look-requires : goal.look-requires
look-requires c = (pass_for c.args.posts.now.plan.now c.args.posts.now.boxes.items c.args.row.now.items c.args.at c.index.result.now c.index_mut.result.now c.index_mut.result.now c.requires.passes c.requires.there (search rules) (search rules)).pass

pub returns-clause-passes : goal.returns-clause-passes
returns-clause-passes c = passes_change c.args.posts.now.plan.now c.args.posts.now.boxes.items c.args.row.now.items c.args.at c.index.result.now c.index_mut.result.now c.look.new.pass c.requires.passes c.requires.there (search rules) (search rules) c.look.ensures.pass (ap (λ v. v.plan) c.look.ensures.view) (ap (λ v. v.owner) c.look.ensures.view)

pub returns-clause-same : goal.returns-clause-same
returns-clause-same c = row_same c.args.posts.now.plan.now c.args.posts.now.boxes.items c.args.row.now.items c.args.at c.index.result.now c.index_mut.result.now c.look.new.pass c.requires.passes c.requires.there (search rules) (search rules) c.look.ensures.view

pub returns-clause-tells : goal.returns-clause-tells
returns-clause-tells c =
    at_view_set c.args.posts.now.plan.now c.args.posts.now.boxes.items c.args.row.now.items c.args.at c.index.result.now c.index_mut.result.now c.look.new.pass c.requires.passes c.requires.there (search rules) (search rules)
    (λ v. IsWhole (numbers_of v) → HoldsRest IsTrueMail v) c.look.ensures.view c.look.ensures.holds
