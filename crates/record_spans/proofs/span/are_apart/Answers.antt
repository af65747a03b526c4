use Rattle.std.proofs.Common.{◌∙◌, true≢false, sym, arith}
use Rattle.record_spans.proofs.SpanLemmas.{apart_at, apart_more}
use Rattle.record_spans.proofs.span.are_apart.Goals.{then-from-low-via-then-from-low, then-from-low-via-else-from-low+then-span}
use Rattle.record_spans.proofs.span.are_apart.Goals as goal

pub returns-then-from-low : goal.returns-then-from-low
returns-then-from-low c = (
  λ h. absurd (true≢false (sym h)),
  λ apart.
      let at = apart_at 0 c.args.spans.now c.loop-span.span-index (record { first = 0; last = 0 }) apart c.loop-span-test.true in
      let behind = at.0 in
      let fits = at.1 in
      let end = c.loop-span.invariant.end in
      let from = c.from.ensures in
      elim c.then-from-low.branch [
        | then-from-low-via-then-from-low w ↦ let low = w.if-from-low.true in absurd (omega (arith, behind, end, from, low))
        | then-from-low-via-else-from-low+then-span w ↦ let less = w.if-span.true in absurd (omega (arith, fits, less))
      ],
)

pub loop-span-preserved : goal.loop-span-preserved
loop-span-preserved c =
    let from = c.from.ensures in
    let end = c.loop-span.invariant.end in
    let low = c.if-from-low.false in
    let fits = c.if-span.false in
    let more = apart_more c.args.spans.now c.loop-span.span-index (record { first = 0; last = 0 }) c.loop-span-test.true c.loop-span.invariant.apart
    (omega (arith, from, end, low)) (omega (arith, fits)) in
    let last = c.from-low.ensures in
    record { apart = more.0; end = more.1 ∙ omega (arith, last) }
