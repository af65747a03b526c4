use Rattle.std.proofs.Common.{arith}
use Rattle.record_spans.proofs.SpanLemmas.{apart_at, count_more, fewer_before}
use Rattle.record_spans.proofs.span.record_count.Goals as goal

pub overflow_sub-count : goal.overflow_sub-count
overflow_sub-count c = (apart_at 0 c.args.spans.now c.loop-span.span-index (record { first = 0; last = 0 }) c.requires.apart c.loop-span-test.true).1

pub overflow_add-count : goal.overflow_add-count
overflow_add-count c =
    let before = fewer_before 0 c.args.spans.now c.loop-span.span-index (record { first = 0; last = 0 }) c.requires.apart c.loop-span-test.true in
    omega (arith, before)

pub overflow_add-count-in-loop-span : goal.overflow_add-count-in-loop-span
overflow_add-count-in-loop-span c =
    let before = fewer_before 0 c.args.spans.now c.loop-span.span-index (record { first = 0; last = 0 }) c.requires.apart c.loop-span-test.true in
    let count = c.loop-span.invariant in
    let fits = (apart_at 0 c.args.spans.now c.loop-span.span-index (record { first = 0; last = 0 }) c.requires.apart c.loop-span-test.true).1 in
    omega (arith, before, count, fits)

pub loop-span-preserved : goal.loop-span-preserved
loop-span-preserved c =
    let fits = (apart_at 0 c.args.spans.now c.loop-span.span-index (record { first = 0; last = 0 }) c.requires.apart c.loop-span-test.true).1 in
    let more = count_more c.args.spans.now c.loop-span.span-index (record { first = 0; last = 0 }) c.loop-span-test.true fits in
    let count = c.loop-span.invariant in
    omega (arith, more, count)
