use Rattle.std.proofs.Common.{◌+◌, length}
use Rattle.record_spans.proofs.SpanLemmas.{span_at}
use Rattle.record_offers.proofs.marks.put_back.Goals as goal

pub lower-requires-clause-some : goal.lower-requires-clause-some
lower-requires-clause-some c =
    (span_at 0 (length c.args.gone.now + 1) c.args.spans.now c.loop-span.span-index _ c.requires.apart c.requires.within c.loop-span-test.true).0

pub lower-requires-clause-some_records : goal.lower-requires-clause-some_records
lower-requires-clause-some_records c =
    (span_at 0 (length c.args.gone.now + 1) c.args.spans.now c.loop-span.span-index _ c.requires.apart c.requires.within c.loop-span-test.true).1
