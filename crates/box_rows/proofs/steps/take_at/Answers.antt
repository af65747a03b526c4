use Rattle.std.proofs.Common.{rules, subst, ◌↔◌}
use Rattle.std.specs.Prelude.{IsNone}
use Rattle.crossbeam_queue.specs.Fifo.{Held}
use Rattle.pass_numbers.specs.Numbers.{IsWhole}
use Rattle.box_rows.specs.Rows.{IsEmpty}
use Rattle.task_queues.specs.Books.{numbers_of}
use Rattle.task_queues.specs.Rule.{Stood}
use Rattle.box_rows.specs.Mails.{IsTrueMail}
use Rattle.box_rows.proofs.Changing.{at_view, pass_at, pass_for, passes_change, row_same, row_taken, map-at, take_terms, some_then, none_then}
use Rattle.task_queues.specs.Passes.{view_of}
use Rattle.box_rows.proofs.steps.take_at.Goals as goal

pub take-requires : goal.take-requires
take-requires g c =
    (pass_for _ c.args.posts.now.boxes.items c.args.row.now.items c.args.at c.index.result.now c.index_mut.result.now c.index_mut.result.now c.requires.passes c.requires.there (search rules) (search rules)).pass

pub returns-clause-passes : goal.returns-clause-passes
returns-clause-passes g c =
    let same = take_terms IsTrueMail c.take.result (view_of c.index_mut.result.now) (view_of c.take.new.pass) c.take.ensures.taken c.take.ensures.same in
    passes_change _ c.args.posts.now.boxes.items c.args.row.now.items c.args.at c.index.result.now c.index_mut.result.now c.take.new.pass c.requires.passes c.requires.there (search rules) (search rules)
    c.take.ensures.pass same.0 same.1

pub returns-clause-is_true : goal.returns-clause-is_true
returns-clause-is_true g c =
    let is = pass_for _ c.args.posts.now.boxes.items c.args.row.now.items c.args.at c.index.result.now c.index_mut.result.now c.index_mut.result.now c.requires.passes c.requires.there (search rules) (search rules) in
    some_then c.take.result
    (λ m true_m. subst (λ n. IsTrueMail c.args.posts.now.plan.now n m) is.owner (subst (λ t. IsTrueMail t (view_of c.index_mut.result.now).owner m) is.plan true_m))
    c.take.ensures.is_true

pub returns-clause-taken : goal.returns-clause-taken
returns-clause-taken g c =
    some_then c.take.result
    (λ m taken. row_taken _ c.args.posts.now.boxes.items c.args.row.now.items c.args.at c.index.result.now c.index_mut.result.now c.take.new.pass c.requires.passes c.requires.there (search rules) (search rules)
    m taken.0 c.index_mut.result.now.some_book taken.1 taken.2 taken.3)
    c.take.ensures.taken

pub returns-clause-same : goal.returns-clause-same
returns-clause-same g c =
    none_then c.take.result
    (row_same _ c.args.posts.now.boxes.items c.args.row.now.items c.args.at c.index.result.now c.index_mut.result.now c.take.new.pass c.requires.passes c.requires.there (search rules) (search rules))
    c.take.ensures.same

pub returns-clause-numbers : goal.returns-clause-numbers
returns-clause-numbers g c =
    map-at _ c.args.row.now.items c.args.at c.index_mut.result.now c.take.new.pass
    (pass_at _ c.args.posts.now.boxes.items c.args.row.now.items c.args.at c.index.result.now c.index_mut.result.now c.take.new.pass c.requires.passes c.requires.there (search rules) (search rules))
    c.take.ensures.numbers

pub returns-clause-empty : goal.returns-clause-empty
returns-clause-empty g c =
    none_then c.take.result
    (at_view _ c.args.posts.now.boxes.items c.args.row.now.items c.args.at c.index.result.now c.index_mut.result.now c.take.new.pass c.requires.passes c.requires.there (search rules) (search rules)
    (λ v. Held 0 (Stood IsTrueMail v)))
    c.take.ensures.empty

pub returns-clause-whole : goal.returns-clause-whole
returns-clause-whole g c =
    at_view _ c.args.posts.now.boxes.items c.args.row.now.items c.args.at c.index.result.now c.index_mut.result.now c.take.new.pass c.requires.passes c.requires.there (search rules) (search rules)
    (λ v. IsWhole (numbers_of v) → IsNone c.take.result ↔ IsEmpty v)
    c.take.ensures.whole
