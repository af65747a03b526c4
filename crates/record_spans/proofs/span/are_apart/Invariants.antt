use Rattle.std.proofs.Common.{◌≡◌, take}
use Rattle.record_spans.specs.Spans.{AreApart, end_of}
use Rattle.record_spans.proofs.span.are_apart.Given as goal

abbrev pub invariant-loop-span : goal.invariant-loop-span
invariant-loop-span l = record {
  apart : AreApart 0 (take l.span-index l.spans);
  end : end_of 0 (take l.span-index l.spans) ≡ l.low;
}
