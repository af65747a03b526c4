-- How attempts of batches ended, and when each record stands in at most one committed batch
-- (Storm's documentation, "Trident Spouts").
use Rattle.std.specs.Prelude.{◌≡◌, ◌≢◌, ◌≤◌, ◌<◌, ℕ, ◌+◌, ◌-◌, ◌==◌, ◌&&◌, ◌++◌, List, [], ◌∷◌, length, take, drop, map, filter, AllPairs, nat_lt, Bool, true, false, IsTrue}
use Rattle.std.specs.List.{AllByRecursion, flat_map, range_with_len}
use Rattle.std.specs.List.Sorted.{IsNonDecreasing}
use Rattle.record_spans.specs.declared.span.Span.{Span}
use Rattle.record_spans.specs.Spans.{records_of, stands_in}
use Rattle.record_offers.specs.Offers.{batch_count, is_gone}
use Rattle.taken_records.specs.Cuts.{Cut}
use Rattle.taken_records.specs.Taken.{IsBatch, StayFronts, batch_spans, one_if, times_in}
use Rattle.tree_model.specs.storm_values.declared.value.Root.{Root}
use Rattle.attempt_fates.specs.declared.fates.Attempt.{Attempt}
use Rattle.attempt_fates.specs.declared.fates.End.{End}
use Rattle.attempt_fates.specs.declared.fates.End.TheVariants.{Committed, Failed, TimedOut, Coincided, CommitFailed, Dropped}

-- ---- ends

abbrev pub is_committed : End → Bool
is_committed (Committed list) = true
is_committed (Failed path) = false
is_committed TimedOut = false
is_committed (Coincided list) = false
is_committed (CommitFailed component part before after) = false
is_committed (Dropped by) = false

abbrev pub is_failed_commit : End → Bool
is_failed_commit (Committed list) = false
is_failed_commit (Failed path) = false
is_failed_commit TimedOut = false
is_failed_commit (Coincided list) = false
is_failed_commit (CommitFailed component part before after) = true
is_failed_commit (Dropped by) = false

abbrev pub is_dropped : End → Bool
is_dropped (Committed list) = false
is_dropped (Failed path) = false
is_dropped TimedOut = false
is_dropped (Coincided list) = false
is_dropped (CommitFailed component part before after) = false
is_dropped (Dropped by) = true

-- an attempt aborts where it ends without a commit, and not with one of a lower transaction
abbrev pub is_abort : End → Bool
is_abort (Committed list) = false
is_abort (Failed path) = true
is_abort TimedOut = true
is_abort (Coincided list) = true
is_abort (CommitFailed component part before after) = true
is_abort (Dropped by) = false

-- ---- records

-- the record of a number, where there is one
abbrev pub record_at : {R : Type 0} → List R → ℕ → List R
record_at records number = take 1 (drop (number - 1) records)

-- the records of some spans, in their order
abbrev pub records_in : {R : Type 0} → List R → List Span → List R
records_in records spans = flat_map (record_at records) (records_of spans)

-- ---- attempts

-- the committed attempts, in the order of the commits
abbrev pub committed : List Attempt → List Attempt
committed fates = filter (λ (a : Attempt). is_committed a.end) fates

-- their batches, and their transactions
abbrev pub committed_batches : List Attempt → List (List Span)
committed_batches fates = map (λ (a : Attempt). a.spans) (committed fates)

abbrev pub committed_txids : List Attempt → List ℕ
committed_txids fates = map (λ (a : Attempt). a.root.txid) (committed fates)

-- the records of the committed attempts, in the order of the commits
abbrev pub committed_records : {R : Type 0} → List R → List Attempt → List R
committed_records records fates = flat_map (records_in records) (committed_batches fates)

-- the committed attempts that have the record of a number
abbrev pub commits_of : ℕ → List Attempt → List Attempt
commits_of number fates = filter (λ (a : Attempt). stands_in a.spans number) (committed fates)

-- the numbers of the attempts of one transaction, in the order of their ends
abbrev pub attempt_numbers : ℕ → List Attempt → List ℕ
attempt_numbers txid fates =
    map (λ (a : Attempt). a.root.attempt) (filter (λ (a : Attempt). a.root.txid == txid) fates)

-- how many attempts of a transaction aborted
abbrev pub aborts_of : ℕ → List Attempt → ℕ
aborts_of txid fates =
    length (filter (λ (a : Attempt). (a.root.txid == txid) && is_abort a.end) fates)

-- how many were dropped
abbrev pub drops_of : ℕ → List Attempt → ℕ
drops_of txid fates =
    length (filter (λ (a : Attempt). (a.root.txid == txid) && is_dropped a.end) fates)

-- whether a transaction is a lower one, by less than so many
abbrev pub is_near : (near txid other : ℕ) → Bool
is_near near txid other = nat_lt other txid && nat_lt txid (other + near)

-- how many attempts of the transactions that are lower by less than so many aborted
abbrev pub near_aborts : (near txid : ℕ) → List Attempt → ℕ
near_aborts near txid fates =
    length (filter (λ (a : Attempt). is_near near txid a.root.txid && is_abort a.end) fates)

-- An attempt is of a transaction after the start. It has 1 record up to as many as the size, none
-- of which was gone at the start, and without partitions those of the batch of its transaction.
pub record HasBatch (cut : Cut) (txid : ℕ) (spans : List Span) : Type 0 where
  pub later : cut.start < txid
  pub batch : IsBatch (length cut.gone) cut.size spans
  pub fresh : (n : ℕ) → stands_in spans n ≡ true → is_gone cut.gone n ≡ false
  pub numbered : cut.partitions ≡ 0 → (txid ≤ batch_count (length cut.gone) cut.size)
      × (spans ≡ batch_spans (length cut.gone) cut.size txid)

-- where one attempt was committed, the other is none of the same transaction
abbrev pub IsNoneAfterCommit : Attempt → Attempt → Type 0
IsNoneAfterCommit earlier later =
    IsTrue (is_committed earlier.end) → later.root.txid ≢ earlier.root.txid

-- Each batch was committed once at most, and in order, where so many ticks were handed out.
pub record IsOnce (cut : Cut) (ticks : ℕ) (fates : List Attempt) : Type 0 where
  -- the commits are of the transactions after the start, one after another
  pub in_order : committed_txids fates
      ≡ range_with_len (cut.start + 1) (length (committed_txids fates))
  -- the attempts of one transaction have the numbers 1, 2 and on
  pub numbered : (txid : ℕ)
      → attempt_numbers txid fates ≡ range_with_len 1 (length (attempt_numbers txid fates))
  -- none ends after the committed one
  pub last_committed : AllPairs IsNoneAfterCommit fates
  pub batches : AllByRecursion (λ (a : Attempt). HasBatch cut a.root.txid a.spans) fates
  -- no record stands in two committed attempts
  pub apart : (n : ℕ) → 1 ≤ n → n ≤ length cut.gone
      → one_if (is_gone cut.gone n) + times_in (committed_batches fates) n ≤ 1
  -- with partitions, what was gone at the start or is committed is a front of each at each place
  pub fronts : 0 < cut.partitions → StayFronts cut.partitions (length cut.gone)
      (is_gone cut.gone) (committed_batches fates)
  -- ticks never go back, and were handed out
  pub rises : AllByRecursion (λ (a : Attempt). a.start ≤ a.finish) fates
  pub finishes : IsNonDecreasing (map (λ (a : Attempt). a.finish) fates)
  pub handed_out : AllByRecursion (λ (a : Attempt). a.finish ≤ ticks) fates

-- Moreover each record was gone at the start or stands in exactly one committed attempt.
pub record IsWhole (cut : Cut) (ticks : ℕ) (fates : List Attempt) : Type 0 where
  pub once : IsOnce cut ticks fates
  pub all_records : (n : ℕ) → 1 ≤ n → n ≤ length cut.gone
      → one_if (is_gone cut.gone n) + times_in (committed_batches fates) n ≡ 1

-- ---- drops

-- An attempt that was dropped follows the end of one of a lower transaction, which aborted at the
-- same tick; none was committed between.
pub record Follows (earlier : List Attempt) (a : Attempt) (by : Root) : Type 0 where
  pub before : List Attempt
  pub other : Attempt
  pub between : List Attempt
  pub split : earlier ≡ before ++ other ∷ between
  pub root : other.root ≡ by
  pub aborts : IsTrue (is_abort other.end)
  pub lower : by.txid < a.root.txid
  pub finish : other.finish ≡ a.finish
  pub none_between : committed between ≡ []

-- two attempts of a transaction are not dropped with the same one
abbrev pub AreDroppedApart : Attempt → Attempt → Type 0
AreDroppedApart a b =
    (by : Root) → a.end ≡ Dropped by → b.end ≡ Dropped by → a.root.txid ≢ b.root.txid

-- attempts are dropped with partitions alone, each with an earlier one
pub record DropsFollow (cut : Cut) (fates : List Attempt) : Type 0 where
  pub partitions : (earlier later : List Attempt) (a : Attempt) (by : Root)
      → fates ≡ earlier ++ a ∷ later → a.end ≡ Dropped by → 0 < cut.partitions
  pub follows : (earlier later : List Attempt) (a : Attempt) (by : Root)
      → fates ≡ earlier ++ a ∷ later → a.end ≡ Dropped by → Follows earlier a by
  pub apart : AllPairs AreDroppedApart fates
