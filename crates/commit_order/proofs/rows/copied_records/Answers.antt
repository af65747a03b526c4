use Rattle.std.proofs.Common.{◌+◌, length, arith}
use Rattle.record_spans.proofs.SpanLemmas.{span_at}
use Rattle.commit_order.proofs.rows.copied_records.Goals as goal

pub copy_span-requires-clause-first : goal.copy_span-requires-clause-first
copy_span-requires-clause-first c =
    let near = rw c.as_slice-span-items.ensures at c.loop-span-test.true in
    let at = (span_at 0 (length c.args.offers.now.records + 1) c.args.spans.now c.loop-span.span-index (record { first = 0; last = 0 }) c.requires.0 c.requires.1 near).0 in
    rw c.as_slice-span-items.ensures at

pub copy_span-requires-clause-some : goal.copy_span-requires-clause-some
copy_span-requires-clause-some c =
    let near = rw c.as_slice-span-items.ensures at c.loop-span-test.true in
    rw c.as_slice-span-items.ensures
    (span_at 0 (length c.args.offers.now.records + 1) c.args.spans.now c.loop-span.span-index (record { first = 0; last = 0 }) c.requires.0 c.requires.1 near).1

pub copy_span-requires-clause-last : goal.copy_span-requires-clause-last
copy_span-requires-clause-last c =
    let near = rw c.as_slice-span-items.ensures at c.loop-span-test.true in
    let last = (span_at 0 (length c.args.offers.now.records + 1) c.args.spans.now c.loop-span.span-index (record { first = 0; last = 0 }) c.requires.0 c.requires.1 near).2 in
    rw c.as_slice-span-items.ensures (omega (arith, last))
