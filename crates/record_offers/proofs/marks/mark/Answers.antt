use Rattle.std.proofs.Common.{◌+◌, length, arith}
use Rattle.record_spans.proofs.SpanLemmas.{span_at}
use Rattle.record_offers.proofs.marks.mark.Goals as goal

pub mark_span-changed-requires-clause-some : goal.mark_span-changed-requires-clause-some
mark_span-changed-requires-clause-some c =
    (span_at 0 (length c.args.gone.now + 1) c.args.spans.now c.loop-span.span-index _ c.requires.apart c.requires.within c.loop-span-test.true).0

pub mark_span-changed-requires-clause-some_records : goal.mark_span-changed-requires-clause-some_records
mark_span-changed-requires-clause-some_records c =
    (span_at 0 (length c.args.gone.now + 1) c.args.spans.now c.loop-span.span-index _ c.requires.apart c.requires.within c.loop-span-test.true).1

pub mark_span-changed-requires-clause-within : goal.mark_span-changed-requires-clause-within
mark_span-changed-requires-clause-within c =
    let last = (span_at 0 (length c.args.gone.now + 1) c.args.spans.now c.loop-span.span-index (record { first = 0; last = 0 }) c.requires.apart c.requires.within c.loop-span-test.true).2 in
    let len = c.loop-span.invariant.marks.len in
    omega (arith, last, len)
