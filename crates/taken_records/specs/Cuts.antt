-- Where a run begins. This project's own.
use Rattle.std.specs.Prelude.{◌≡◌, ℕ, ◌+◌, ◌*◌, ◌^◌, ◌<◌, ◌≤◌, nat_le, List, Bool, length}
use Rattle.record_offers.specs.Offers.{OfferState, batch_count, is_gone, with_gone}
use Rattle.taken_records.specs.Taken.{IsFront}

-- the offers of a run as they are at its start
abbrev pub Cut : Type 0
Cut = OfferState

-- the offers where these records are gone
abbrev pub offers_of : Cut → List Bool → OfferState
offers_of cut gone = with_gone cut gone

-- The transactions up to the start may have taken the records that are gone: without partitions the
-- first batches, else a front of each partition. Transactions have numbers below 2^64.
pub record IsStart (cut : Cut) : Type 0 where
  pub some : 0 < cut.size
  pub marks : length cut.gone ≡ length cut.records
  pub last : cut.start + length cut.gone < 2 ^ 64
  pub early : cut.partitions ≡ 0 → cut.start ≤ batch_count (length cut.gone) cut.size
  pub batches : cut.partitions ≡ 0 → (n : ℕ) → 1 ≤ n → n ≤ length cut.gone
      → is_gone cut.gone n ≡ nat_le n (cut.start * cut.size)
  pub fronts : 0 < cut.partitions
      → IsFront cut.partitions (length cut.gone) (is_gone cut.gone)
