-- The coordinator's state in code, and how its attempts in flight are its pending attempts.
use Rattle.std.specs.Prelude.{◌≡◌, ◌≤◌, ℕ, ◌+◌, Bool, true, false, not, List, [], ◌∷◌, ◌++◌, map, filter, length, replicate, if◌then◌else◌, nat_lt, Option, None, Some}
use Rattle.std.specs.List.{AllByRecursion}
use Rattle.attempt_fates.specs.declared.fates.Attempt.{Attempt}
use Rattle.attempt_fates.specs.declared.fates.End.{End}
use Rattle.attempt_fates.specs.declared.fates.End.TheVariants.{Dropped}
use Rattle.commit_writes.specs.Writes.{AreWritesOf}
use Rattle.commit_turns.specs.Account.{rows_at}
use Rattle.commit_turns.specs.declared.wait.Wait.{Wait}
use Rattle.commit_turns.specs.Desks.{Desk, Progress, ended_at, without}
use Rattle.commit_turns.specs.Turns.{and_then, begun, drops, end_by, ends_with, ticked}
use Rattle.record_offers.specs.Offers.{OfferState, with_gone}
use Rattle.record_spans.specs.declared.span.Span.{Span}
use Rattle.record_spans.specs.Spans.{AreApart, end_of}
use Rattle.replay_pending.specs.declared.entry.Entry.{Entry}
use Rattle.replay_pending.specs.InFlight.{InFlight, Tries, is_above, tried}
use Rattle.state_parts.specs.declared.answer.Commit.{Commit}
use Rattle.state_parts.specs.declared.answer.CommitOutcome.TheVariants.{Done}
use Rattle.taken_records.specs.Cuts.{Cut}
use Rattle.taken_records.specs.Taken.{marked, put_back}
use Rattle.tuple_account.specs.storm_values.declared.value.Root.{Root}
use Rattle.tuple_account.specs.storm_values.declared.value.Value.{Value}
use Rattle.tuple_account.specs.topology_plan.Topology.{Topology}
use Rattle.tuple_account.specs.tree_model.declared.messages.AckMsg.{AckMsg}

-- a plan, the offers as they were at the start, and what the coordinator knows
pub record Office : Type 0 where
  pub topology : Topology
  pub cut : Cut
  pub desk : Desk

-- ---- offers

-- the marks of so many records where those of some spans are gone
abbrev pub marks_of : ℕ → List Span → List Bool
marks_of n spans = marked true spans (replicate n false)

-- the offers as they were when the records of these spans were gone
abbrev pub cut_by : OfferState → List Span → Cut
cut_by offers began = with_gone offers (marks_of (length offers.records) began)

-- spans of some of so many records
abbrev pub AreWithin : ℕ → List Span → Type 0
AreWithin n spans = AreApart 0 spans × (end_of 0 spans ≤ n + 1)

-- ---- attempts in flight

-- a settled list is seen as its messages
abbrev pub Settled : Type 0
Settled = List AckMsg

-- a pending attempt, as the coordinator knows it
abbrev pub wait_of : Entry Settled → Wait
wait_of e =
    record { root = e.root; spans = e.spans; start = e.start; settled = e.settled }

abbrev pub waits : List (Entry Settled) → List Wait
waits es = map wait_of es

-- as many may be pending as the plan says, as many ticks until a time-out, and each pending attempt
-- has spans of the records
pub record IsInFlight (t : Topology) (records : ℕ) (flight : InFlight Settled) : Type 0 where
  pub cap : flight.cap ≡ t.pending
  pub buckets : flight.buckets ≡ t.buckets
  pub spans : AllByRecursion (λ (e : Entry Settled). AreWithin records e.spans) flight.pending

-- ---- ends

-- the transaction, where as many of its attempts aborted as a plan allows
abbrev pub try_of : Topology → Tries → ℕ → Option ℕ
try_of t tries txid =
    if nat_lt (tried txid tries).aborted t.attempts then None else Some txid

-- attempts that ended were added to the fates, or the first of them where memory was wanted
pub record AddsSome (ended old new : List Attempt) : Type 0 where
  pub done : List Attempt
  pub rest : List Attempt
  pub are_first : ended ≡ done ++ rest
  pub added : new ≡ old ++ done

-- an attempt that ended at a tick
abbrev pub entry_ended : ℕ → End → Entry Settled → Attempt
entry_ended tick end e = ended_at tick end (wait_of e)

-- the transaction of an attempt with which as many aborted as a plan allows
abbrev pub try_at : Topology → Tries → Entry Settled → Option ℕ
try_at t tries e = try_of t tries e.root.txid

-- the records of an attempt, as spans
abbrev pub entry_spans : Entry Settled → List Span
entry_spans e = e.spans

-- of the attempts of transactions above that of a root some have ended with it so far
pub record DropsSome (first : Root) (tick : ℕ) (was now : List (Entry Settled)) (gone marks : List Bool)
    (told tells : List Attempt) : Type 0 where
  pub done : List Attempt
  pub fates : tells ≡ told ++ done
  pub left : done ++ map (entry_ended tick (Dropped first)) (filter (is_above first.txid) now)
      ≡ map (entry_ended tick (Dropped first)) (filter (is_above first.txid) was)
  pub back : put_back (map entry_spans (filter (is_above first.txid) now)) marks
      ≡ put_back (map entry_spans (filter (is_above first.txid) was)) gone
  pub others : filter (λ (e : Entry Settled). not (is_above first.txid e)) now
      ≡ filter (λ (e : Entry Settled). not (is_above first.txid e)) was

-- the attempts that end with that of a root ended with it
pub record DropsAll (first : Root) (old new : Office) (told tells : List Attempt) : Type 0 where
  pub office : new ≡ record old {
    desk = record old.desk {
      gone = put_back
          (map (λ (w : Wait). w.spans)
          (filter (ends_with old.topology old.cut first) old.desk.pending)) old.desk.gone;
      pending = filter (λ (w : Wait). not (ends_with old.topology old.cut first w)) old.desk.pending;
    };
  }
  pub fates : tells
      ≡ told ++ drops old.topology old.cut old.desk.tick first old.desk.pending

-- the commit of a pending attempt that is settled, with its records
abbrev pub IsCommitOf : Option Wait → Option Commit → Type 0
IsCommitOf None commit = commit ≡ None
IsCommitOf (Some w) None = ⊥
IsCommitOf (Some w) (Some commit) =
    (commit.root ≡ w.root) × (commit.spans ≡ w.spans)
    × ((list : List AckMsg) → w.settled ≡ Some list → AreWritesOf list commit.writes)

-- a pending attempt is committed
abbrev pub with_commit : Office → Wait → Progress
with_commit o w = record {
  desk = record o.desk {
    committed = o.desk.committed + 1;
    pending = without w.root o.desk.pending;
  };
  ended = ended_at o.desk.tick (end_by o.topology o.cut Done w.settled) w ∷ [];
}

-- the office goes on to what is known then, and the attempts that ended are added to the fates
pub record GoesOn (to : Progress) (old : Office) (new : Office) (told : List Attempt)
    (tells : List Attempt) : Type 0 where
  pub office : new ≡ record old { desk = to.desk }
  pub fates : tells ≡ told ++ to.ended

-- Of some ticks some passed, and so many are left: all of them come to what they came to, and then
-- the rest.
pub record Passes (ticks left : ℕ) (old new : Office) (told tells : List Attempt) : Type 0 where
  pub ended : List Attempt
  pub office : new ≡ record old { desk = new.desk }
  pub fates : tells ≡ told ++ ended
  pub all : ticked old.topology old.cut ticks old.desk
      ≡ and_then old.topology old.cut (record { desk = new.desk; ended = ended })
      (ticked old.topology old.cut left new.desk)

-- the attempt that begins next is pending: it is of this root, and has these rows
abbrev pub BeginsNext : Option Wait → Root → List (List Value) → Office → Office → Type 0
BeginsNext None root rows old new = ⊥
BeginsNext (Some w) root rows old new =
    (w.root ≡ root) × (rows_at old.cut w.spans ≡ rows)
    × (new ≡ record old { desk = begun old.topology old.cut w old.desk })
