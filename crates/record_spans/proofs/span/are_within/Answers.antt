use Rattle.std.proofs.Common.{◌≤◌, sym, arith}
use Rattle.std.proofs.lemmas.Bool.Decides.{nat_tests}
use Rattle.record_spans.proofs.SpanLemmas.{last_got}
use Rattle.record_spans.proofs.span.are_within.Goals as goal

pub returns-in-Some : goal.returns-in-Some
returns-in-Some c =
    let end = last_got c.args.spans.now c.in-Some.span.now (sym c.in-Some.ensures.value) in (
      λ is. let last : c.in-Some.span.now.last ≤ c.args.most = grind (arith, nat_tests, is) in omega (arith, end, last),
      λ within. let last : c.in-Some.span.now.last ≤ c.args.most = omega (arith, end, within) in grind (arith, nat_tests, last),
    )
