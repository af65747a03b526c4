-- What is kept beside the marks, so that offers are quick. This project's own.
use Rattle.std.specs.Prelude.{◌≡◌, ℕ, ◌%◌, ◌<◌, ◌≤◌, List, Bool, true, not, cond, length, slice_index, slice_index_or}
use Rattle.storm_values.specs.declared.value.Value.{Value}
use Rattle.record_offers.specs.Offers.{batch_count, left_in}

-- each record of a partition whose place, counted from 0, is below the partition's bound is gone
abbrev pub AreLow : ℕ → List ℕ → List Bool → Type 0
AreLow partitions low gone =
    (i : ℕ) → i < length gone → i < slice_index low (i % partitions)
    → slice_index_or gone i true ≡ true

-- and each bound is a place of its partition
pub record AreBounds (low : List ℕ) (gone : List Bool) : Type 0 where
  pub reached : AreLow (length low) low gone
  pub own : (q : ℕ) → q < length low → slice_index low q % length low ≡ q

-- whether a mark is this
abbrev pub is_mark : Bool → Bool → Bool
is_mark to mark = cond to mark (not mark)

-- a mark for each record, a bound for each partition, and two numbers that are asked for often
pub record AreKept (records : List (List Value)) (size : ℕ) (gone : List Bool) (low : List ℕ) (count rest : ℕ) : Type 0 where
  pub some : 0 < size
  pub marks : length gone ≡ length records
  pub few : length low ≤ 16
  pub bounds : AreBounds low gone
  pub batches : count ≡ batch_count (length records) size
  pub left : rest ≡ left_in gone
