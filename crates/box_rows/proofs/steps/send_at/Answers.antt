use Rattle.std.proofs.Common.{rules, subst, sym, ◌↔◌}
use Rattle.std.specs.Prelude.{IsErr}
use Rattle.crossbeam_queue.specs.Fifo.{Held}
use Rattle.pass_numbers.specs.Numbers.{IsWhole}
use Rattle.box_rows.specs.Rows.{IsFull}
use Rattle.task_queues.specs.Books.{numbers_of}
use Rattle.task_queues.specs.Rule.{Stood}
use Rattle.box_rows.specs.Mails.{IsTrueMail}
use Rattle.box_rows.proofs.Changing.{at_view, pass_at, pass_for, passes_change, row_same, row_sent, map-at, send_terms, ok_then, err_then}
use Rattle.task_queues.specs.Passes.{view_of}
use Rattle.box_rows.proofs.steps.send_at.Goals as goal

pub send-requires-clause-pass : goal.send-requires-clause-pass
send-requires-clause-pass g c =
    (pass_for _ c.args.posts.now.boxes.items c.args.row.now.items c.args.at c.index.result.now c.index_mut.result.now c.index_mut.result.now c.requires.passes c.requires.there (search rules) (search rules)).pass

pub send-requires-clause-is_true : goal.send-requires-clause-is_true
send-requires-clause-is_true g c =
    let is = pass_for _ c.args.posts.now.boxes.items c.args.row.now.items c.args.at c.index.result.now c.index_mut.result.now c.index_mut.result.now c.requires.passes c.requires.there (search rules) (search rules) in
    subst (λ n. IsTrueMail (view_of c.index_mut.result.now).plan n c.args.mail) (sym is.owner) (subst (λ t. IsTrueMail t c.args.at c.args.mail) (sym is.plan) c.requires.is_true)

pub returns-clause-passes : goal.returns-clause-passes
returns-clause-passes g c =
    let same = send_terms c.send.result (view_of c.index_mut.result.now) (view_of c.send.new.pass) c.args.mail c.send.ensures.sent c.send.ensures.same in
    passes_change _ c.args.posts.now.boxes.items c.args.row.now.items c.args.at c.index.result.now c.index_mut.result.now c.send.new.pass c.requires.passes c.requires.there (search rules) (search rules)
    c.send.ensures.pass same.0 same.1

pub returns-clause-sent : goal.returns-clause-sent
returns-clause-sent g c =
    ok_then c.send.result
    (row_sent _ c.args.posts.now.boxes.items c.args.row.now.items c.args.at c.index.result.now c.index_mut.result.now c.send.new.pass c.requires.passes c.requires.there (search rules) (search rules)
    c.args.mail c.index_mut.result.now.some_book)
    c.send.ensures.sent

pub returns-clause-same : goal.returns-clause-same
returns-clause-same g c =
    err_then c.send.result
    (row_same _ c.args.posts.now.boxes.items c.args.row.now.items c.args.at c.index.result.now c.index_mut.result.now c.send.new.pass c.requires.passes c.requires.there (search rules) (search rules))
    c.send.ensures.same

pub returns-clause-numbers : goal.returns-clause-numbers
returns-clause-numbers g c =
    map-at _ c.args.row.now.items c.args.at c.index_mut.result.now c.send.new.pass
    (pass_at _ c.args.posts.now.boxes.items c.args.row.now.items c.args.at c.index.result.now c.index_mut.result.now c.send.new.pass c.requires.passes c.requires.there (search rules) (search rules))
    c.send.ensures.numbers

pub returns-clause-full : goal.returns-clause-full
returns-clause-full g c =
    err_then c.send.result
    (at_view _ c.args.posts.now.boxes.items c.args.row.now.items c.args.at c.index.result.now c.index_mut.result.now c.send.new.pass c.requires.passes c.requires.there (search rules) (search rules)
    (λ v. Held v.capacity (Stood IsTrueMail v)))
    c.send.ensures.full

pub returns-clause-whole : goal.returns-clause-whole
returns-clause-whole g c =
    at_view _ c.args.posts.now.boxes.items c.args.row.now.items c.args.at c.index.result.now c.index_mut.result.now c.send.new.pass c.requires.passes c.requires.there (search rules) (search rules)
    (λ v. IsWhole (numbers_of v) → IsErr c.send.result ↔ IsFull v)
    c.send.ensures.whole
