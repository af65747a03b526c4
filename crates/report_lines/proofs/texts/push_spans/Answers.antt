use Rattle.std.proofs.Common.{◌≡◌, ◌≤◌, ◌∷◌, length, arith, rules}
use Rattle.report_lines.proofs.Joined.{spans_done}
use Rattle.report_lines.proofs.texts.push_spans.Goals as goal

pub returns : goal.returns
returns c =
    let parts : c.args.spans.now ≡ c.in-Some.first.now ∷ c.in-Some.others.now = search rules in
    let all : length c.in-Some.others.now ≤ c.loop-span.span-index = omega arith in
    spans_done _ _ c.in-Some.others.now c.loop-span.span-index _ _ _ parts all c.in_ok-push_span.ensures c.loop-span.invariant
