use Rattle.std.proofs.Common.{◌<◌, ◌≤◌, sym, arith}
use Rattle.std.proofs.lemmas.Bool.Decides.{nat_tests}
use Rattle.record_spans.proofs.SpanLemmas.{last_got}
use Rattle.kept_commits.proofs.joining.touches.Goals as goal

pub returns-in-Some-clause-near : goal.returns-in-Some-clause-near
returns-in-Some-clause-near c is =
    let end = last_got c.args.runs.now c.in-Some.run'.now (sym c.in-Some.ensures.value) in
    let less = c.saturating_sub.ensures in
    let near : c.saturating_sub.result ≤ 1 = grind (arith, nat_tests, is) in
    omega (arith, end, less, near)

pub returns-in-Some-clause-far : goal.returns-in-Some-clause-far
returns-in-Some-clause-far c is some =
    let end = last_got c.args.runs.now c.in-Some.run'.now (sym c.in-Some.ensures.value) in
    let less = c.saturating_sub.ensures in
    let far : 1 < c.saturating_sub.result = grind (arith, nat_tests, is) in
    omega (arith, end, less, far)
