use Rattle.std.proofs.Common.{◌≡◌, ◌+◌, ◌-◌, ◌++◌, [], ◌∷◌, List, sym, ap, ap₂, ◌∙◌, arith, append_assoc}
use Rattle.std.specs.Prelude.{slice_get}
use Rattle.std.proofs.lemmas.List.{append-nil}
use Rattle.tuple_account.specs.storm_values.declared.value.Value.{Value}
use Rattle.commit_order.proofs.Copying.{from_on, one_more, one_span}
use Rattle.commit_order.proofs.rows.copy_span.Goals as goal

pub loop-before-init : goal.loop-before-init
loop-before-init c =
    let first = c.requires.first in
    let none : c.args.span.now.first - 1 + 1 - c.args.span.now.first ≡ 0 = omega arith in
    sym (ap (λ n. c.args.into.now ++ from_on c.args.offers.now.records c.args.span.now.first n) none ∙ append-nil c.args.into.now)

pub loop-before-preserved : goal.loop-before-preserved
loop-before-preserved c =
    let before = c.loop-before.before in
    let first = c.args.span.now.first in
    let records = c.args.offers.now.records in
    let many = before + 1 - first in
    let low = c.loop-before.auto.before in
    let some = c.requires.first in
    let at : first + many - 1 ≡ before + 1 - 1 = omega arith in
    let next : many + 1 ≡ before + 1 + 1 - first = omega arith in
    let row = ap (slice_get records) at ∙ c.row.ensures in
    c.in_ok-push.ensures.ok
    ∙ ap₂ (λ (xs : List (List Value)) (x : List Value). xs ++ x ∷ []) c.loop-before.invariant c.in_ok-copy.ensures
    ∙ append_assoc c.args.into.now (from_on records first many) (c.row.result.now ∷ [])
    ∙ ap (λ (ys : List (List Value)). c.args.into.now ++ ys) (sym (one_more records first many c.row.result.now row) ∙ ap (from_on records first) next)

pub returns : goal.returns
returns c =
    let records = c.args.offers.now.records in
    let low = c.loop-before.auto.before in
    let some = c.requires.some in
    let far = c.loop-before-test.false in
    let all : c.loop-before.before + 1 - c.args.span.now.first ≡ c.args.span.now.last + 1 - c.args.span.now.first = omega arith in
    c.loop-before.invariant ∙ ap (λ (ys : List (List Value)). c.args.into.now ++ ys) (ap (from_on records c.args.span.now.first) all ∙ sym (one_span records c.args.span.now))
