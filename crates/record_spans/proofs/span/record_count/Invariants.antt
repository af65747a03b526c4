use Rattle.std.proofs.Common.{◌≡◌, length, take}
use Rattle.record_spans.specs.Spans.{records_of}
use Rattle.record_spans.proofs.span.record_count.Given as goal

abbrev pub invariant-loop-span : goal.invariant-loop-span
invariant-loop-span l = l.count ≡ length (records_of (take l.span-index l.spans))
