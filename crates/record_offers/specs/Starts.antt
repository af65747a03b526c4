-- Where offers may start. This project's own.
use Rattle.std.specs.Prelude.{◌≡◌, ℕ, ◌+◌, ◌*◌, ◌<◌, ◌≤◌, min, List, length}
use Rattle.std.specs.List.{range_with_len}
use Rattle.record_spans.specs.declared.span.Span.{Span}
use Rattle.record_spans.specs.Spans.{AreApart, end_of, records_of}
use Rattle.record_spans.specs.Fronts.{AreFronts}
use Rattle.record_offers.specs.Offers.{batch_count}

-- The transactions 1 to txid may have taken just these of n records: of a spout without partitions
-- its batches 1 to txid; else 1 to size records each, which are a front of each partition.
pub record IsPossible (n size partitions txid : ℕ) (gone : List Span) : Type 0 where
  pub apart : AreApart 0 gone
  pub within : end_of 0 gone ≤ n + 1
  pub batches : partitions ≡ 0
      → (txid ≤ batch_count n size) × (records_of gone ≡ range_with_len 1 (min (txid * size) n))
  pub offers : 0 < partitions
      → (txid ≤ length (records_of gone)) × (length (records_of gone) ≤ txid * size)
      × AreFronts partitions gone
