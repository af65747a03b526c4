use Rattle.std.proofs.Common.{◌≡◌, ◌≤◌, ◌+◌}
use Rattle.std.specs.List.{filter, range_with_len}
use Rattle.record_spans.specs.Spans.{AreApart, end_of, records_of}
use Rattle.record_offers.specs.Offers.{is_gone}
use Rattle.record_offers.proofs.marks.gone_runs.Given as goal

abbrev pub invariant-loop-at : goal.invariant-loop-at
invariant-loop-at l = record {
  apart : AreApart 0 l.spans.items;
  end : end_of 0 l.spans.items ≤ l.at + 1;
  records : records_of l.spans.items ≡ filter (is_gone l.gone) (range_with_len 1 l.at);
}
