-- A run of workers: stretches, sweeps, and rounds of the caller, with commits to parts. This
-- project's own.
use Rattle.std.specs.Prelude.{◌≡◌, ◌≤◌, ◌<◌, ◌+◌, ◌-◌, ◌%◌, ℕ, true, false, List, [], ◌++◌, Some, None, Result, Ok, Err, All, Contains, length, slice_get}
use Rattle.event_worlds.specs.attempt_fates.declared.fates.Attempt.{Attempt}
use Rattle.batch_commits.specs.Standing.{FailuresAreCounted, HasStrangeAt}
use Rattle.event_worlds.specs.bolt_ops.RowOp.{Custom, IsCustom}
use Rattle.worker_stretches.specs.box_account.Hearing.{HeardBeforeFailing}
use Rattle.worker_stretches.specs.box_account.Inboxes.{GoesThrough}
use Rattle.worker_stretches.specs.box_rows.declared.mail.Mail.{Mail}
use Rattle.worker_stretches.specs.box_rows.FitRows.{IsFitRow}
use Rattle.event_worlds.specs.commit_turns.Kept.{HaveSpans}
use Rattle.event_worlds.specs.commit_turns.Outcomes.{IsOutcome}
use Rattle.worker_stretches.specs.event_engine.declared.engine.Engine.{Engine}
use Rattle.worker_stretches.specs.event_engine.Engines.{Gives, HasOutcomes, IsIdle, IsReady, has_ended, shape, sources}
use Rattle.worker_stretches.specs.event_engine.Shutting.{shutting_steps}
use Rattle.event_worlds.specs.Accounted.{IsInput}
use Rattle.event_worlds.specs.Beside.{LedBeside}
use Rattle.event_worlds.specs.Rounds.{CanFinish, round_with}
use Rattle.event_worlds.specs.Worlds.{Step, World, outcomes_of}
use Rattle.event_worlds.specs.output_collector.Draws.{Draws}
use Rattle.event_worlds.specs.record_offers.Offers.{is_shut}
use Rattle.event_worlds.specs.record_spans.Spans.{stands_in}
use Rattle.event_worlds.specs.record_spans.declared.span.Span.{Span}
use Rattle.pulse_board.specs.declared.seat.Board.{Board}
use Rattle.pulse_board.specs.declared.seat.BoardSeat.{BoardSeat}
use Rattle.pulse_board.specs.Seats.{book_of}
use Rattle.schedule_core.specs.declared.fault.RunFault.{RunFault}
use Rattle.schedule_core.specs.declared.fault.RunFault.TheVariants as fault
use Rattle.schedule_core.specs.Driving.{Breaks, StandOn}
use Rattle.schedule_core.specs.Following.{Unfollowed}
use Rattle.schedule_core.specs.Rounding.{opening_steps}
use Rattle.event_worlds.specs.state_parts.Commits.{IsBadAt}
use Rattle.event_worlds.specs.state_parts.declared.answer.CommitOutcome.{CommitOutcome}
use Rattle.event_worlds.specs.state_parts.declared.answer.CommitOutcome.TheVariants.{Done}
use Rattle.event_worlds.specs.state_parts.declared.parts.StatePart.{StatePart}
use Rattle.event_worlds.specs.state_parts.PartPlans.{AreParts, plans_of}
use Rattle.event_worlds.specs.storm_ids.declared.ids.Ids.{Ghosts}
use Rattle.storm_stores.specs.CellMaps.{CellMap}
use Rattle.task_queues.specs.declared.pass.Mailbox.{Mailbox}
use Rattle.task_queues.specs.declared.pass.Pass.{Pass}
use Rattle.event_worlds.specs.topology_plan.Topology.{Topology}
use Rattle.event_worlds.specs.taken_records.Cuts.{Cut}
use Rattle.event_worlds.specs.tuple_account.Histories.{History}
use Rattle.worker_stretches.specs.Parts.{IsWholeSeat}
use Rattle.worker_stretches.specs.Standing.{IsInTime, Stands, beside_it}
use Rattle.worker_stretches.specs.world_progress.Doing.{done}
use Rattle.worker_stretches.specs.world_progress.Rounding.{IsOpen}
use Rattle.worker_turns.specs.Carrying.{AreEmpty, HaveRoom, IsSwept}

-- ---- steps

-- a round up to the coordinator's step, before which partitions are shut by these bits, and others
-- opened
abbrev pub opening_by : Topology → ℕ → List Step
opening_by t shut = shutting_steps t.partitions shut ++ opening_steps t

-- a whole round behind that, with so many ticks
abbrev pub round_by : Topology → ℕ → ℕ → List Step
round_by t shut ticks = shutting_steps t.partitions shut ++ round_with t ticks

-- a bad cell stopped it, or a follower that failed
abbrev pub WasStopped : Result (Unit {0}) RunFault → Type 0
WasStopped (Ok done) = ⊥
WasStopped (Err (fault.BadCell key)) = Unit {0}
WasStopped (Err (fault.Follow txid)) = Unit {0}
WasStopped (Err fault.Memory) = ⊥

-- ---- what was offered

-- The records of an attempt are of partitions that are open by one of these answers.
pub record IsOffered (partitions : ℕ) (shuts : List ℕ) (spans : List Span) : Type 0 where
  pub shut : ℕ
  pub answered : Contains shuts shut
  pub are_open : (n : ℕ) → stands_in spans n ≡ true → is_shut shut ((n - 1) % partitions) ≡ false

-- ---- how it goes on

-- Later a history led to a world, beside which no parcel is left in hand. Where none of the
-- partitions was shut meanwhile, as `none` says, they stay open. Where every bolt lets batches
-- through, no commit fails and few ticks passed, no less was done, or so much more where all is not
-- over and no partition was shut.
pub record LaterOn (t : Topology) (custom : Custom) (cut : Cut) (words : ℕ → ℕ → ℕ)
    (outcomes : List CommitOutcome) (row : List (Pass Mail)) (none : Type 0) (least : ℕ)
    (given : ℕ → List ℕ) (counts : ℕ → ℕ) (h : History) (was is : World) (over : Type 0)
    : Type 0 where
  pub history : History
  pub now : ℕ → ℕ
  pub counted : (s : ℕ) → now s ≡ counts s + length (given s)
  pub stands : Stands t custom cut words outcomes row [] history
      (record { world = is; counts = now })
  pub open_on : none → IsOpen cut was → IsOpen cut is
  pub rose : (0 < least → none) → (0 < least → IsOpen cut was) → CanFinish t
      → All (λ (how : CommitOutcome). how ≡ Done) outcomes
      → is.tick < t.buckets → (over → ⊥) → done h was + least ≤ done history is

-- Some history led to a world, beside which boxes hold what they hold; all that was taken from them
-- went through it, and before a commit failed a verdict was heard.
pub record Reaches (t : Topology) (custom : Custom) (cut : Cut) (words : ℕ → ℕ → ℕ)
    (row : List (Pass Mail)) (w : World) : Type 0 where
  pub history : History
  pub counts : ℕ → ℕ
  pub led : LedBeside t custom cut words (beside_it row []) history
      (record { world = w; counts = counts })
  pub through : GoesThrough row history w
  pub heard : HeardBeforeFailing history w.fates

module _ {I : Type 0} {g : Ghosts I} where
  -- An engine went on beside boxes, and partitions were shut and opened: sources gave words,
  -- attempts ended, and what stood stands still, with so much more done where all is not over and
  -- none of the partitions was shut, as `none` says.
  pub record MovesOn (tells : I → (ℕ → ℕ) → ℕ → Type 0) (t : Topology) (custom : Custom)
      (cut : Cut) (none : Type 0) (least : ℕ) (old new : Engine I g) (was is : List (Pass Mail))
      : Type 0 where
    pub given : ℕ → List ℕ
    pub draws : (s : ℕ) (source : I) → slice_get (sources old) s ≡ Some source
        → (then : I) × (slice_get (sources new) s ≡ Some then) × Draws tells source (given s) then
    pub off : (s : ℕ) → slice_get (sources old) s ≡ None
        → (given s ≡ []) × (slice_get (sources new) s ≡ None)
    pub more : List Attempt
    pub added : new.fates ≡ old.fates ++ more
    pub ticks : old.tick ≤ new.tick
    pub over : has_ended old ≡ true → has_ended new ≡ true
    pub on : (words : ℕ → ℕ → ℕ) (counts : ℕ → ℕ) (outcomes : List CommitOutcome)
        → Gives words counts given → HasOutcomes outcomes new.fates
        → IsInput t cut → IsCustom custom → All (IsOutcome t) outcomes → (h : History)
        → Stands t custom cut words outcomes was [] h
        (record { world = shape old; counts = counts })
        → LaterOn t custom cut words outcomes is none least given counts h (shape old)
        (shape new) (has_ended new ≡ true)

  -- What stood where an engine was, whose sources gave this since, led to where it is, and what was
  -- taken from boxes went on through it.
  abbrev pub LedFrom : Topology → Custom → Cut → (given : ℕ → List ℕ) → (old new : Engine I g)
      → List (Pass Mail) → Type 0
  LedFrom t custom cut given old new row =
      (words : ℕ → ℕ → ℕ) (counts : ℕ → ℕ) (outcomes : List CommitOutcome)
      → Gives words counts given → HasOutcomes outcomes new.fates
      → IsInput t cut → IsCustom custom → All (IsOutcome t) outcomes → (h : History)
      → Stands t custom cut words outcomes row [] h
      (record { world = shape old; counts = counts })
      → Reaches t custom cut words row (shape new)

  -- all attempts of an engine were offered so, those that ended and those that are pending
  abbrev pub HasOffered : ℕ → List ℕ → Engine I g → Type 0
  HasOffered partitions shuts e =
      HaveSpans (λ root spans. IsOffered partitions shuts spans) (shape e).desk e.fates

  -- Nobody works: the engine has all seats and may have an event, all that waits stands in its
  -- inboxes, the row and the seat at the board have all numbers, and the board has the ticks.
  pub record IsGathered (t : Topology) (cut : Cut) (boxes : List (Mailbox Mail)) (board : Board)
      (e : Engine I g) (row : List (Pass Mail)) (seat : BoardSeat) : Type 0 where
    pub ready : IsReady t cut e
    pub idle : IsIdle e
    pub swept : IsSwept (shape e)
    pub fit : IsFitRow t boxes row
    pub empty : AreEmpty row
    pub room : HaveRoom row
    pub whole : IsWholeSeat board seat
    pub in_time : IsInTime e.tick (book_of seat)

module _ {I S : Type 0} {g : Ghosts I} where
  -- An engine went on beside boxes, with so much more done where all is not over and none of the
  -- partitions was shut, and its commits went to the parts of all states.
  pub record RunsOn (tells : I → (ℕ → ℕ) → ℕ → Type 0) (holds : S → CellMap → Type 0)
      (count : S → ℕ) (t : Topology) (custom : Custom) (cut : Cut) (none : Type 0) (least : ℕ)
      (old new : Engine I g) (row now_row : List (Pass Mail)) (was is : List (StatePart S))
      : Type 0 where
    pub goes : MovesOn tells t custom cut none least old new row now_row
    pub plans : plans_of is ≡ plans_of was
    -- the outcomes that were added are such as commits have
    pub outcomes : AreParts t was → All (IsOutcome t) (outcomes_of old.fates)
        → All (IsOutcome t) (outcomes_of new.fates)
    -- parts that stand at what was committed stand at what is committed
    pub stands : (words : ℕ → ℕ → ℕ) (counts : ℕ → ℕ) (outcomes : List CommitOutcome)
        → Gives words counts goes.given → HasOutcomes outcomes new.fates
        → IsInput t cut → IsCustom custom → All (IsOutcome t) outcomes → (h : History)
        → Stands t custom cut words outcomes row [] h
        (record { world = shape old; counts = counts })
        → AreParts t was → StandOn holds t custom cut old.fates new.fates was is
    -- a bad or strange cell was there before, at the same key
    pub bad : (key : List ℕ) → IsBadAt holds is key → IsBadAt holds was key
    pub strange : (key : List ℕ) → HasStrangeAt holds is key → HasStrangeAt holds was key
    pub counted : FailuresAreCounted count goes.more was is

  -- A bad cell stopped a round, which was there before it, at the same key: some attempts ended,
  -- and a last commit was tried that no fate tells.
  pub record Broken (tells : I → (ℕ → ℕ) → ℕ → Type 0) (holds : S → CellMap → Type 0)
      (count : S → ℕ) (t : Topology) (custom : Custom) (cut : Cut) (shut ticks : ℕ)
      (key : List ℕ) (old new : Engine I g) (row : List (Pass Mail))
      (was is : List (StatePart S)) : Type 0 where
    pub breaks : Breaks tells holds count t custom cut (round_by t shut ticks) key old new was is
    pub stood : LedFrom t custom cut breaks.drives.goes.given old new row

  -- A follower stopped a round, where it failed at the commit of a transaction, which was done.
  pub record Stopped (tells : I → (ℕ → ℕ) → ℕ → Type 0) (holds : S → CellMap → Type 0)
      (count : S → ℕ) (t : Topology) (custom : Custom) (cut : Cut) (shut ticks txid : ℕ)
      (old new : Engine I g) (row : List (Pass Mail)) (was is : List (StatePart S))
      : Type 0 where
    pub stops : Unfollowed tells holds count t custom cut (round_by t shut ticks) txid old new was
        is
    pub stood : LedFrom t custom cut stops.drives.goes.given old new row
