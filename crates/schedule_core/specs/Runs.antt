-- What a run of steps over the parts of all states comes to. This project's own.
use Rattle.std.specs.Prelude.{◌≡◌, ◌<◌, ◌≤◌, ◌+◌, ◌-◌, ◌^◌, ℕ, false, List, [], ◌∷◌, ◌++◌, Result, Ok, Err, All, length, map, fold, get_or, nat_le, if◌then◌else◌}
use Rattle.std.specs.List.{AllByRecursion, range_with_len}
use Rattle.event_worlds.specs.attempt_fates.declared.fates.Attempt.{Attempt}
use Rattle.event_worlds.specs.attempt_fates.Fates.{DropsFollow, IsOnce, IsWhole, aborts_of, committed_batches, committed_txids}
use Rattle.batch_commits.specs.Standing.{AllButLastAreCounted, FailuresAreCounted, HasStrangeAt, PartsStand, batches_in}
use Rattle.event_worlds.specs.bolt_ops.RowOp.{Custom}
use Rattle.event_worlds.specs.commit_order.declared.stop.Stop.{Stop}
use Rattle.event_worlds.specs.commit_order.declared.stop.Stop.TheVariants as stop
use Rattle.event_worlds.specs.commit_turns.Kept.{FailsInTurn}
use Rattle.event_worlds.specs.commit_turns.Turns.{last_tick}
use Rattle.event_worlds.specs.Accounted.{AreCaused}
use Rattle.event_worlds.specs.Worlds.{Step, of_acker, of_open, of_outcome, of_shut, of_task, of_tick, of_turn}
use Rattle.event_engine.specs.Shutting.{shutting_steps}
use Rattle.schedule_core.specs.declared.ended.Ended.{Ended}
use Rattle.schedule_core.specs.declared.ended.Ended.TheVariants as ending
use Rattle.event_worlds.specs.record_offers.Offers.{is_gone}
use Rattle.event_worlds.specs.record_spans.declared.span.Span.{Span}
use Rattle.schedule_core.specs.Driving.{AreBefore, AreKept}
use Rattle.schedule_core.specs.Following.{EndsByCommit}
use Rattle.schedule_core.specs.Schedules.{EndsEach, HadMemory, IsAnswer, IsOfWorld}
use Rattle.event_worlds.specs.state_parts.Commits.{IsBadAt}
use Rattle.event_worlds.specs.state_parts.declared.parts.StatePart.{StatePart}
use Rattle.event_worlds.specs.state_parts.Standing.{IsEmpty}
use Rattle.storm_stores.specs.CellMaps.{CellMap}
use Rattle.storm_ticks.specs.Ticking.{handed_on}
use Rattle.event_worlds.specs.taken_records.Cuts.{Cut}
use Rattle.event_worlds.specs.taken_records.Taken.{times_in}
use Rattle.event_worlds.specs.topology_plan.Topology.{Topology}
use Rattle.world_progress.specs.Rounding.{ShutsNone}
use Rattle.event_worlds.specs.Rounds.{round_with}

-- how many batches the fates say were committed
abbrev pub committed_count : List Attempt → ℕ
committed_count fates = length (committed_txids fates)

-- as many attempts of a transaction aborted as a plan allows, and no commit of it
pub record HasRunOut (t : Topology) (cut : Cut) (txid : ℕ) (fates : List Attempt) : Type 0 where
  pub all_aborted : aborts_of txid fates ≡ t.attempts
  pub none_committed : cut.start + committed_count fates < txid

-- a record was not gone at the start, and stands in no committed attempt
pub record IsLeft (cut : Cut) (fates : List Attempt) (n : ℕ) : Type 0 where
  pub first : 1 ≤ n
  pub last : n ≤ length cut.gone
  pub fresh : is_gone cut.gone n ≡ false
  pub in_none : times_in (committed_batches fates) n ≡ 0

-- Some record is left uncommitted, and so many batches were committed since the start.
pub record IsUnfinished (cut : Cut) (count : ℕ) (fates : List Attempt) : Type 0 where
  pub committed : committed_count fates ≡ count
  pub some_left : (n : ℕ) × IsLeft cut fates n
  -- without partitions there are more batches
  pub more_batches : cut.partitions ≡ 0 → cut.start + count < batches_in cut

-- What the answer of a run says of its fates.
abbrev pub Answers : Topology → Cut → ℕ → List Attempt → Result Ended Stop → Type 0
Answers t cut ticks fates (Ok ending.All) = IsWhole cut ticks fates
Answers t cut ticks fates (Ok (ending.Unfinished count)) = IsUnfinished cut count fates
Answers t cut ticks fates (Err (stop.Exhausted txid)) = HasRunOut t cut txid fates
Answers t cut ticks fates (Err (stop.BadCell key)) = Unit {0}
Answers t cut ticks fates (Err (stop.Follow txid)) = EndsByCommit txid fates
Answers t cut ticks fates (Err stop.Memory) = Unit {0}

-- the start is at the first transaction, with no record gone
pub record IsFirst (cut : Cut) : Type 0 where
  pub start : cut.start ≡ 0
  pub none_gone : (n : ℕ) → 1 ≤ n → n ≤ length cut.gone → is_gone cut.gone n ≡ false

-- What a run, in which so many ticks were handed out, with these parts before and after it, tells
-- of its answer and its fates. It names no step and no world.
pub record RunTells {S : Type 0} (holds : S → CellMap → Type 0) (count : S → ℕ) (t : Topology)
    (custom : Custom) (cut : Cut) (ticks : ℕ) (answer : Result Ended Stop) (fates : List Attempt)
    (old new : List (StatePart S)) : Type 0 where
  -- each batch was committed once at most, and in order
  pub once : IsOnce cut last_tick fates
  pub in_time : HadMemory answer → IsOnce cut ticks fates
  pub answers : Answers t cut ticks fates answer
  -- each end has its cause
  pub caused : HadMemory answer → (words : ℕ → ℕ → ℕ) × AreCaused t custom cut ticks words fates
  pub failed_in_turn : HadMemory answer → FailsInTurn cut fates
  -- attempts are dropped with partitions alone, each with an earlier one that aborted
  pub drops : HadMemory answer → DropsFollow cut fates
  -- a bad cell was there before the run, and so was each strange one, at the same key
  pub bad_cell : (key : List ℕ) → answer ≡ Err (stop.BadCell key) → IsBadAt holds old key
  pub strange : (key : List ℕ) → HasStrangeAt holds new key → HasStrangeAt holds old key
  -- parts that stood at the batches before the start stand at them and then those that were
  -- committed, in order, whatever the answer
  pub stands : (before : List (List Span)) → AreBefore cut before
      → PartsStand holds t custom cut before old
      → PartsStand holds t custom cut (before ++ committed_batches fates) new
  -- so parts that were empty stand at those that were committed, where no record was gone before
  pub stands_first : IsFirst cut → All (IsEmpty holds) old
      → PartsStand holds t custom cut (committed_batches fates) new
  -- no store failed but at the commits that failed, and, where a fault stopped the run, at the last
  -- one that was tried
  pub counted : EndsEach answer → FailuresAreCounted count fates old new
  pub but_last : AllButLastAreCounted count fates old new
  -- the parts can be given back
  pub kept : AreKept holds old new

-- A run of these steps, in which so many ticks were handed out, with these parts before and after
-- it, came to an answer and left fates.
pub record RunComes {S : Type 0} (holds : S → CellMap → Type 0) (count : S → ℕ) (t : Topology)
    (custom : Custom) (cut : Cut) (steps : List Step) (ticks : ℕ) (answer : Result Ended Stop)
    (fates : List Attempt) (old new : List (StatePart S)) : Type 0 where
  pub tells : RunTells holds count t custom cut ticks answer fates old new
  -- it is the run of a world
  pub of_world : IsAnswer answer
      → (words : ℕ → ℕ → ℕ) × IsOfWorld t custom cut words steps answer fates

-- ---- rounds

-- a step of a task or of an acker
abbrev pub IsWork : Step → Type 0
IsWork (of_task n) = Unit {0}
IsWork (of_acker n) = Unit {0}
IsWork of_turn = ⊥
IsWork of_outcome = ⊥
IsWork of_tick = ⊥
IsWork (of_shut q) = ⊥
IsWork (of_open q) = ⊥

-- The steps are one round after another, each of one of these numbers of ticks and one of these
-- answers which partitions are shut, in order. Before a round each partition is shut or opened by
-- the answer, and then tasks and ackers have steps; in it that many ticks come before the
-- coordinator's step.
abbrev pub HasRoundsOf : Topology → (answers shuts : List ℕ) → List Step → Type 0
HasRoundsOf t [] [] steps = steps ≡ []
HasRoundsOf t [] (shut ∷ shuts) steps = ⊥
HasRoundsOf t (ticks ∷ answers) [] steps = ⊥
HasRoundsOf t (ticks ∷ answers) (shut ∷ shuts) steps =
    (events rest : List Step)
    × (steps ≡ shutting_steps t.partitions shut ++ (events ++ (round_with t ticks ++ rest)))
    × AllByRecursion IsWork events × HasRoundsOf t answers shuts rest

-- how many ticks were handed out between two counts of them, which end at 2^64 - 1
abbrev pub ticks_between : ℕ → ℕ → ℕ
ticks_between before after =
    if nat_le (2 ^ 64 - 1) after then 2 ^ 64 - 1 else after - before

-- the first so many of the answers to come, each 0 after the last
abbrev pub first_answers : ℕ → List ℕ → List ℕ
first_answers count answers = map (λ k. get_or answers k 0) (range_with_len 0 count)

-- a run of rounds that nothing stopped has left no record uncommitted
abbrev pub ended : Result (Unit {0}) Stop → Result Ended Stop
ended (Ok done) = Ok ending.All
ended (Err why) = Err why

-- A run of rounds, which asked once a round which partitions are shut and how many ticks passed, and
-- over sources that tell came to what these tell.
pub record RoundsCome {S : Type 0} (told : (ℕ → ℕ → ℕ) → Type 0) (ticking : List ℕ → Type 0)
    (availing : List ℕ → Type 0) (tells : S → CellMap → Type 0) (count : S → ℕ) (t : Topology)
    (custom : Custom) (cut : Cut) (before after : ℕ) (answer : Result (Unit {0}) Stop)
    (fates : List Attempt) (old new : List (StatePart S)) : Type 0 where
  -- what the source of ticks answered
  pub answers : List ℕ
  pub handed_out : after ≡ fold handed_on before answers
  pub asked : (to_come : List ℕ) → ticking to_come
      → answers ≡ first_answers (length answers) to_come
  -- and which partitions were told to be shut
  pub shuts : List ℕ
  pub asked_shut : (to_come : List ℕ) → availing to_come
      → shuts ≡ first_answers (length shuts) to_come
  -- the steps
  pub steps : List Step
  pub rounds : HasRoundsOf t answers shuts steps
  -- where all partitions are told to be open they shut none
  pub shut_none : (0 < t.partitions → availing []) → All ShutsNone steps
  pub comes : RunComes tells count t custom cut steps (ticks_between before after) (ended answer)
      fates old new
  pub of_told : (words : ℕ → ℕ → ℕ) → told words → IsAnswer (ended answer)
      → IsOfWorld t custom cut words steps (ended answer) fates
  pub drawn : (words : ℕ → ℕ → ℕ) → told words → HadMemory (ended answer)
      → AreCaused t custom cut (ticks_between before after) words fates
