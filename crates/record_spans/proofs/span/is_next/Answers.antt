use Rattle.std.proofs.Common.{◌≡◌, ◌-◌, sym, arith}
use Rattle.std.proofs.lemmas.Bool.Decides.{nat_tests}
use Rattle.record_spans.proofs.SpanLemmas.{last_got}
use Rattle.record_spans.proofs.span.is_next.Goals as goal

pub returns-in-Some-clause-next : goal.returns-in-Some-clause-next
returns-in-Some-clause-next c next =
    let end = last_got c.args.spans.now c.in-Some.run'.now (sym c.in-Some.ensures.value) in
    let some = c.requires.some in
    let is : c.in-Some.run'.now.last ≡ c.args.number - 1 = grind (arith, nat_tests, next) in
    omega (arith, end, some, is)

pub returns-in-Some-clause-other : goal.returns-in-Some-clause-other
returns-in-Some-clause-other c other behind =
    let end = last_got c.args.spans.now c.in-Some.run'.now (sym c.in-Some.ensures.value) in
    let is : c.in-Some.run'.now.last ≡ c.args.number - 1 → ⊥ = λ e. grind (arith, nat_tests, other, e) in
    omega (arith, end, behind, is)
