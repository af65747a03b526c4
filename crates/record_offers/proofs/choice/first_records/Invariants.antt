use Rattle.std.proofs.Common.{◌≡◌, ◌≤◌, ◌+◌, ◌-◌, length}
use Rattle.std.specs.List.{filter, range_with_len}
use Rattle.record_spans.specs.Spans.{AreApart, end_of, records_of}
use Rattle.record_offers.specs.Offers.{is_free}
use Rattle.record_offers.proofs.choice.first_records.Given as goal

abbrev pub invariant-loop-at : goal.invariant-loop-at
invariant-loop-at l = record {
  within : l.at ≤ length l.gone;
  apart : AreApart 0 l.spans.items;
  end : end_of 0 l.spans.items ≤ l.at + 1;
  records : records_of l.spans.items ≡ filter (is_free (length l.low) l.shut l.gone) (range_with_len 1 l.at);
  count : l.count ≡ length (records_of l.spans.items);
  few : l.count ≤ l.size;
}

abbrev pub decreases-loop-at : goal.decreases-loop-at
decreases-loop-at l = length l.gone - l.at
