-- What the coordinator keeps from call to call: each record is taken once at most, batches are
-- committed in order, and the attempts of a transaction run one after another. This project's own.
use Rattle.std.specs.Prelude.{◌≡◌, ◌≢◌, ◌≤◌, ◌<◌, ℕ, ◌+◌, true, false, IsTrue, if◌then◌else◌, None, Some, List, [], ◌∷◌, ◌++◌, length, map, AllPairs}
use Rattle.std.specs.List.{AllByRecursion}
use Rattle.commit_turns.specs.declared.wait.Wait.{Wait}
use Rattle.record_spans.specs.declared.span.Span.{Span}
use Rattle.record_offers.specs.Offers.{is_gone}
use Rattle.taken_records.specs.Taken.{AreTaken, StayFronts}
use Rattle.tuple_account.specs.storm_values.declared.value.Root.{Root}
use Rattle.tuple_account.specs.topology_plan.Topology.{Topology}
use Rattle.tuple_account.specs.tree_model.Lists.{IsClosed}
use Rattle.tuple_account.specs.tree_model.declared.messages.AckMsg.{AckMsg}
use Rattle.taken_records.specs.Cuts.{Cut}
use Rattle.attempt_fates.specs.declared.fates.Attempt.{Attempt}
use Rattle.attempt_fates.specs.Fates.{DropsFollow, HasBatch, IsOnce, aborts_of, attempt_numbers, committed, committed_batches, committed_txids, drops_of, is_failed_commit, near_aborts}
use Rattle.commit_turns.specs.Desks.{Desk, has_txid}
use Rattle.replay_pending.specs.InFlight.{tried}
use Rattle.commit_turns.specs.Turns.{is_finished}

-- each commit that failed was of the transaction right after those that were committed before it
abbrev pub FailsInTurn : Cut → List Attempt → Type 0
FailsInTurn cut fates =
    (earlier later : List Attempt) (a : Attempt) → fates ≡ earlier ++ a ∷ later
    → IsTrue (is_failed_commit a.end) → a.root.txid ≡ cut.start + length (committed earlier) + 1

-- A pending attempt is the last one that was begun of a transaction that is not committed, and that
-- is near the next one to be committed, and has its records. It began at a tick, and is not late. A
-- list that it was settled with is closed.
pub record IsWaiting (t : Topology) (cut : Cut) (d : Desk) (w : Wait) : Type 0 where
  pub number : w.root.attempt ≡ (tried w.root.txid d.tries).begun
  pub later : d.committed < w.root.txid
  pub near : w.root.txid ≤ d.committed + t.pending
  pub batch : HasBatch cut w.root.txid w.spans
  pub starts : w.start ≤ d.tick
  pub not_late : w.settled ≡ None → d.tick < w.start + t.buckets
  pub closed : (list : List AckMsg) → w.settled ≡ Some list → IsClosed list

-- the batches of pending attempts
abbrev pub pending_batches : Desk → List (List Span)
pending_batches d = map (λ (w : Wait). w.spans) d.pending

-- those of the committed attempts, and then these
abbrev pub batches_taken : Desk → List Attempt → List (List Span)
batches_taken d fates = committed_batches fates ++ pending_batches d

-- the pending attempts are of the next transactions, one after another
abbrev pub AreInRow : ℕ → List Wait → Type 0
AreInRow next [] = Unit {0}
AreInRow next (w ∷ pending) = (w.root.txid ≡ next) × AreInRow (next + 1) pending

-- The fates of a run so far, and what the coordinator knows.
pub record IsKept (t : Topology) (cut : Cut) (d : Desk) (fates : List Attempt) : Type 0 where
  pub once : IsOnce cut d.tick fates
  pub commits : d.committed ≡ cut.start + length (committed_txids fates)
  pub fails_in_turn : FailsInTurn cut fates
  pub drops : DropsFollow cut fates
  -- each record is gone as often as it was at the start, is committed or pending
  pub taken : AreTaken cut.gone d.gone cut.size (batches_taken d fates)
  pub fronts : 0 < cut.partitions → StayFronts cut.partitions (length cut.gone)
      (is_gone cut.gone) (batches_taken d fates)
  pub in_row : 0 < cut.partitions → AreInRow (d.committed + 1) d.pending
  -- the attempts that were begun ended or are pending
  pub begun : (txid : ℕ)
      → (tried txid d.tries).begun
      ≡ length (attempt_numbers txid fates) + (if has_txid txid d.pending then 1 else 0)
  pub aborted : (txid : ℕ) → (tried txid d.tries).aborted ≡ aborts_of txid fates
  -- one is dropped no more often than attempts of near lower transactions aborted
  pub few_drops : (txid : ℕ) → drops_of txid fates ≤ near_aborts t.pending txid fates
  pub waits : AllByRecursion (IsWaiting t cut d) d.pending
  pub apart : AllPairs (λ (a b : Wait). a.root.txid ≢ b.root.txid) d.pending
  pub few : length d.pending ≤ t.pending
  -- no more attempts aborted than a plan allows
  pub most : (txid : ℕ) → aborts_of txid fates ≤ t.attempts
  -- while the coordinator goes on, fewer did
  pub goes_on : d.exhausted ≡ None → (txid : ℕ) → aborts_of txid fates < t.attempts
  -- it stops where all attempts of a transaction aborted, and none was committed
  pub ran_out : (txid : ℕ) → d.exhausted ≡ Some txid
      → (aborts_of txid fates ≡ t.attempts) × (d.committed < txid)

-- Unless the coordinator stopped or no record is left uncommitted, an attempt of the lowest
-- transaction that is not committed is pending.
abbrev pub HasLowest : Topology → Cut → Desk → Type 0
HasLowest t cut d =
    d.exhausted ≡ None → is_finished t cut d ≡ false
    → has_txid (d.committed + 1) d.pending ≡ true

-- all attempts have such spans, those that are pending and those that ended
pub record HaveSpans (R : Root → List Span → Type 0) (d : Desk) (fates : List Attempt)
    : Type 0 where
  pub waits : AllByRecursion (λ (w : Wait). R w.root w.spans) d.pending
  pub ends : AllByRecursion (λ (a : Attempt). R a.root a.spans) fates
