-- Which records a spout offers next. Records and transactions are counted from 1. Batches with
-- transaction ids after Storm's documentation, "Trident Spouts"; the rule of partitions is this
-- project's own.
use Rattle.std.specs.Prelude.{◌≡◌, ℕ, ◌+◌, ◌-◌, ◌*◌, ◌%◌, ◌<◌, ◌==◌, ◌&&◌, min, List, Bool, true, false, not, cond, length, replicate, take, slice_index_or}
use Rattle.std.specs.Int.{bit_at, div_ceil}
use Rattle.std.specs.List.{count_by, filter, range_with_len}
use Rattle.storm_values.specs.declared.value.Value.{Value}

-- The records of an input and which of them are gone. There are 0 partitions where the spout has
-- none. A mark for each record, in the order of the input, says whether it is gone. The start is
-- the transaction after which the offers began.
pub record OfferState : Type 0 where
  pub records : List (List Value)
  pub size : ℕ
  pub partitions : ℕ
  pub gone : List Bool
  pub start : ℕ

-- the state at first: no record is gone
abbrev pub fresh : List (List Value) → ℕ → ℕ → OfferState
fresh records size partitions = record {
  records = records;
  size = size;
  partitions = partitions;
  gone = replicate (length records) false;
  start = 0;
}

-- ---- which records are gone

-- whether a record is gone; what is no record of the input is as one that is gone
abbrev pub is_gone : List Bool → ℕ → Bool
is_gone gone n = slice_index_or gone (n - 1) true

-- the records that are gone, in the order of the input
abbrev pub gone_records : List Bool → List ℕ
gone_records gone = filter (is_gone gone) (range_with_len 1 (length gone))

-- the number of records that are not gone
abbrev pub left_in : List Bool → ℕ
left_in gone = count_by not gone

-- the records that pass a test are gone (or not), and each other one is what it was
pub record AreMarked (test : ℕ → Bool) (to : Bool) (old new : List Bool) : Type 0 where
  pub len : length new ≡ length old
  pub each : (i : ℕ) → i < length old
      → slice_index_or new i true ≡ cond (test (i + 1)) to (slice_index_or old i true)

-- the same but for the records that are gone
abbrev pub with_gone : OfferState → List Bool → OfferState
with_gone state gone = record {
  records = state.records;
  size = state.size;
  partitions = state.partitions;
  gone = gone;
  start = state.start;
}

-- ---- batches of a spout without partitions

-- the least number of batches of a size that holds n records
abbrev pub batch_count : ℕ → ℕ → ℕ
batch_count n size = div_ceil n size

-- the numbers of the first and the last record of a batch
abbrev pub first_of : ℕ → ℕ → ℕ
first_of size txid = (txid - 1) * size + 1

abbrev pub last_of : ℕ → ℕ → ℕ → ℕ
last_of n size txid = min (txid * size) n

-- the numbers of the records of a batch; there are none where there is no such batch
abbrev pub batch_numbers : ℕ → ℕ → ℕ → List ℕ
batch_numbers n size txid =
    range_with_len (first_of size txid) (last_of n size txid + 1 - first_of size txid)

-- ---- offers of a spout with partitions

-- bit q of shut says that partition q is shut
abbrev pub is_shut : ℕ → ℕ → Bool
is_shut shut q = bit_at shut q == 1

-- A record may be offered: it is not gone, and its partition is not shut. Record n is of partition
-- (n - 1) % partitions.
abbrev pub is_free : ℕ → ℕ → List Bool → ℕ → Bool
is_free partitions shut gone n =
    not (is_gone gone n) && not (is_shut shut ((n - 1) % partitions))

-- the records that may be offered, in the order of the input
unfoldable pub free_records : ℕ → ℕ → List Bool → List ℕ
free_records partitions shut gone =
    filter (is_free partitions shut gone) (range_with_len 1 (length gone))

-- the first of them, as many as the size, or all where they are fewer
abbrev pub first_free : ℕ → ℕ → ℕ → List Bool → List ℕ
first_free size partitions shut gone = take size (free_records partitions shut gone)

-- ---- offers

-- The records that are offered: of a spout without partitions the batch of the transaction, and
-- else the first records that may be offered.
abbrev pub offered : OfferState → ℕ → ℕ → List ℕ
offered state txid shut =
    cond (state.partitions == 0) (batch_numbers (length state.records) state.size txid)
    (first_free state.size state.partitions shut state.gone)
