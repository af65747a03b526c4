-- What a run over the stores of a maker comes to. This project's own.
use Rattle.std.specs.Prelude.{◌≡◌, ◌++◌, ◌⊎◌, ℕ, List, [], ◌∷◌, Result, Ok, Err, All, fold, length}
use Rattle.event_worlds.specs.attempt_fates.declared.fates.Attempt.{Attempt}
use Rattle.event_worlds.specs.attempt_fates.Fates.{DropsFollow, IsOnce, IsWhole, committed_batches}
use Rattle.batch_commits.specs.Standing.{writes_of}
use Rattle.event_worlds.specs.bolt_ops.RowOp.{Custom}
use Rattle.event_worlds.specs.commit_order.declared.stop.Stop.TheVariants as stop
use Rattle.event_worlds.specs.commit_order.Follows.{FailsAtLast, Follows}
use Rattle.event_worlds.specs.commit_turns.Kept.{FailsInTurn}
use Rattle.event_worlds.specs.Accounted.{AreCaused}
use Rattle.event_worlds.specs.Rounds.{CanFinish, DoesNotCoincide}
use Rattle.event_worlds.specs.Worlds.{Step}
use Rattle.event_worlds.specs.record_spans.declared.span.Span.{Span}
use Rattle.schedule_core.specs.declared.ended.Ended.TheVariants as ended
use Rattle.schedule_core.specs.Driving.{AreBefore}
use Rattle.schedule_core.specs.Following.{EndsByCommit}
use Rattle.schedule_core.specs.Runs.{HasRoundsOf, HasRunOut, IsFirst, IsUnfinished, first_answers}
use Rattle.schedule_core.specs.Schedules.{IsOfWorld}
use Rattle.event_worlds.specs.state_parts.declared.answer.Commit.{Commit}
use Rattle.event_worlds.specs.storm_values.Counts.{Rose}
use Rattle.storm_ticks.specs.Ticking.{handed_on}
use Rattle.stored_runs.specs.declared.ending.RunEnd.{RunEnd}
use Rattle.stored_runs.specs.declared.ending.RunEnd.TheVariants as end
use Rattle.stored_runs.specs.Makers.{BeganEmpty, FaultsAreCounted, FaultsBeforeBadCell, HadStrangeAt, HadTextKeys, HoldsStrangeAt, MakerUse, MapsStand, MapsStood, ReadingFailed}
use Rattle.event_worlds.specs.topology_plan.Topology.{Topology}
use Rattle.event_worlds.specs.tree_model.declared.write.Table.{Table}
use Rattle.event_worlds.specs.tree_model.Tables.{AreTables}
use Rattle.event_worlds.specs.taken_records.Cuts.{Cut}

-- ---- each end

-- Over stores that stood at the batches before the start these are the tables of one machine that
-- takes the records of these batches and then those that were committed, in the order of the
-- commits.
pub record AreTablesOfCommits (t : Topology) (custom : Custom) (cut : Cut) (maker : MakerUse)
    (fates : List Attempt) (tables : List Table) : Type 0 where
  pub later : (before : List (List Span)) → AreBefore cut before
      → MapsStood t custom cut before maker
      → AreTables t custom (writes_of t custom cut (before ++ committed_batches fates)) tables
  -- so over stores that began empty, where no record was gone before, those that were committed
  pub first : IsFirst cut → BeganEmpty t maker
      → AreTables t custom (writes_of t custom cut (committed_batches fates)) tables

-- What the end of a run says: no record is left uncommitted, and these are the tables; or as many
-- attempts of a transaction aborted as the plan allows; or some record is left uncommitted, and so
-- many batches were committed; or none is left, and a store failed at the last reading; or a store
-- had at this key a cell before the run that no part takes; or a follower failed at the commit of
-- this transaction, which is the last end.
abbrev pub EndComes : Topology → Custom → Cut → ℕ → MakerUse → List Attempt → RunEnd → Type 0
EndComes t custom cut ticks maker fates (end.All tables) =
    IsWhole cut ticks fates × AreTablesOfCommits t custom cut maker fates tables
EndComes t custom cut ticks maker fates (end.Exhausted txid) = HasRunOut t cut txid fates
EndComes t custom cut ticks maker fates (end.Unfinished many) = IsUnfinished cut many fates
EndComes t custom cut ticks maker fates end.StoreFault = IsWhole cut ticks fates
EndComes t custom cut ticks maker fates (end.BadCell key) = HadStrangeAt t maker key
EndComes t custom cut ticks maker fates (end.Follow txid) = EndsByCommit txid fates

-- What the end says of faults: what stores failed is what the fates tell, and one fault more at the
-- last reading where that failed.
abbrev pub FaultsCome : Topology → MakerUse → List Attempt → RunEnd → Type 0
FaultsCome t maker fates (end.All tables) = FaultsAreCounted t maker fates
FaultsCome t maker fates (end.Exhausted txid) = FaultsAreCounted t maker fates
FaultsCome t maker fates (end.Unfinished many) = FaultsAreCounted t maker fates
FaultsCome t maker fates end.StoreFault = ReadingFailed t maker fates
FaultsCome t maker fates (end.BadCell key) = FaultsBeforeBadCell t maker fates
FaultsCome t maker fates (end.Follow txid) = FaultsAreCounted t maker fates

-- ---- a run

-- Each end of an attempt has its cause, with so many ticks handed out: by some words of the sources
-- of ids, and by those that the sources told.
pub record HaveCauses (told : (ℕ → ℕ → ℕ) → Type 0) (t : Topology) (custom : Custom) (cut : Cut)
    (ticks : ℕ) (fates : List Attempt) : Type 0 where
  pub by_some : (words : ℕ → ℕ → ℕ) × AreCaused t custom cut ticks words fates
  pub by_told : (words : ℕ → ℕ → ℕ) → told words → AreCaused t custom cut ticks words fates

-- Over stores that stood at the batches before the start all maps stand at these and then those
-- that were committed, in the order of the commits.
pub record StandAtCommits (t : Topology) (custom : Custom) (cut : Cut) (maker : MakerUse)
    (fates : List Attempt) : Type 0 where
  pub later : (before : List (List Span)) → AreBefore cut before
      → MapsStood t custom cut before maker
      → MapsStand t custom cut (before ++ committed_batches fates) maker
  -- so over stores that began empty, where no record was gone before, at those that were committed
  pub first : IsFirst cut → BeganEmpty t maker
      → MapsStand t custom cut (committed_batches fates) maker
  -- a cell that no part takes, or at a key that is no text, was there before
  pub strange : (key : List ℕ) → HoldsStrangeAt t maker key → HadStrangeAt t maker key

-- A run over the stores of a maker, in which so many ticks were handed out, left these fates and
-- ended so. The sources of ids told these words.
pub record IsRun (told : (ℕ → ℕ → ℕ) → Type 0) (t : Topology) (custom : Custom) (cut : Cut)
    (ticks : ℕ) (maker : MakerUse) (fates : List Attempt) (ending : RunEnd) : Type 0 where
  -- each batch was committed once at most, and in order
  pub once : IsOnce cut ticks fates
  pub comes : EndComes t custom cut ticks maker fates ending
  -- each end has its cause
  pub caused : HaveCauses told t custom cut ticks fates
  pub failed_in_turn : FailsInTurn cut fates
  -- attempts are dropped with partitions alone, each with an earlier one that aborted
  pub drops : DropsFollow cut fates
  pub counted : FaultsCome t maker fates ending
  -- the maps stand at the batches that were committed
  pub stands : StandAtCommits t custom cut maker fates

-- Of a run that ended without memory: all maps stand at the batches that were committed. The
-- commit of the next one may have been under way, so that each key has its old cell or that of this
-- commit.
abbrev pub StandsWithoutMemory : Topology → Custom → Cut → MakerUse → List Attempt → Type 0
StandsWithoutMemory t custom cut maker fates = StandAtCommits t custom cut maker fates

-- ---- followers

-- What a follower was told of a run that left these fates: all that was committed, in order, and of
-- the last commit perhaps nothing where it failed at it. Where memory was wanted it did not fail.
abbrev pub EndFollowed : {W E : Type 0} → (W → List Commit → Type 0) → (W → ℕ)
    → Result RunEnd E → List Attempt → W → W → Type 0
EndFollowed tells count (Ok (end.All tables)) fates was is = Follows tells count [] fates was is
EndFollowed tells count (Ok (end.Exhausted txid)) fates was is =
    Follows tells count [] fates was is
EndFollowed tells count (Ok (end.Unfinished many)) fates was is =
    Follows tells count [] fates was is
EndFollowed tells count (Ok end.StoreFault) fates was is = Follows tells count [] fates was is
EndFollowed tells count (Ok (end.BadCell key)) fates was is = Follows tells count [] fates was is
EndFollowed tells count (Ok (end.Follow txid)) fates was is =
    FailsAtLast tells count txid [] fates was is
EndFollowed tells count (Err e) fates was is = count is ≡ count was

-- All maps stand at what was committed before the last end. So it is where a follower failed at the
-- last commit, which is left out, as one that was begun.
abbrev pub StandBeforeLast : Topology → Custom → Cut → MakerUse → List Attempt → Type 0
StandBeforeLast t custom cut maker fates =
    (earlier : List Attempt) (last : Attempt) → fates ≡ earlier ++ last ∷ []
    → StandAtCommits t custom cut maker earlier

-- ---- worlds

-- the fates, and the answer with this end, are those of the world after these steps
abbrev pub IsEndOfWorld : Topology → Custom → Cut → (ℕ → ℕ → ℕ) → List Step → List Attempt → RunEnd
    → Type 0
IsEndOfWorld t custom cut words steps fates (end.All tables) =
    IsOfWorld t custom cut words steps (Ok ended.All) fates
IsEndOfWorld t custom cut words steps fates (end.Exhausted txid) =
    IsOfWorld t custom cut words steps (Err (stop.Exhausted txid)) fates
IsEndOfWorld t custom cut words steps fates (end.Unfinished many) =
    IsOfWorld t custom cut words steps (Ok (ended.Unfinished many)) fates
IsEndOfWorld t custom cut words steps fates end.StoreFault =
    IsOfWorld t custom cut words steps (Ok ended.All) fates
IsEndOfWorld t custom cut words steps fates (end.BadCell key) = Unit {0}
IsEndOfWorld t custom cut words steps fates (end.Follow txid) = Unit {0}

-- They are so by some words of the sources of ids, and by those that the sources told.
pub record IsRunOfWorld (told : (ℕ → ℕ → ℕ) → Type 0) (t : Topology) (custom : Custom) (cut : Cut)
    (steps : List Step) (fates : List Attempt) (ending : RunEnd) : Type 0 where
  pub by_some : (words : ℕ → ℕ → ℕ) × IsEndOfWorld t custom cut words steps fates ending
  pub by_told : (words : ℕ → ℕ → ℕ) → told words
      → IsEndOfWorld t custom cut words steps fates ending

-- A run by rounds, which asked once a round which partitions are shut and how many ticks passed, is
-- that of the world after them. Over sources that tell it came to what these tell.
pub record IsRunByRounds (told : (ℕ → ℕ → ℕ) → Type 0) (ticking availing : List ℕ → Type 0)
    (t : Topology) (custom : Custom) (cut : Cut) (before after : ℕ) (fates : List Attempt)
    (ending : RunEnd) : Type 0 where
  -- what the source of ticks answered
  pub answers : List ℕ
  pub handed_out : after ≡ fold handed_on before answers
  pub asked : (to_come : List ℕ) → ticking to_come
      → answers ≡ first_answers (length answers) to_come
  -- and which partitions were told to be shut
  pub shuts : List ℕ
  pub asked_shut : (to_come : List ℕ) → availing to_come
      → shuts ≡ first_answers (length shuts) to_come
  -- the steps
  pub steps : List Step
  pub rounds : HasRoundsOf t answers shuts steps
  pub world : IsRunOfWorld told t custom cut steps fates ending

-- ---- when a run has to commit all

-- The maps stood at the batches before the start, and no cell was at a key that is no text. What a
-- run leaves serves a later start: the maps stand at what was committed, and no strange cell is new
-- (`StandAtCommits`).
pub record StoodBefore (t : Topology) (custom : Custom) (cut : Cut) (maker : MakerUse)
    : Type 0 where
  pub before : List (List Span)
  pub are : AreBefore cut before
  pub stood : MapsStood t custom cut before maker
  pub texts : HadTextKeys t maker

-- the stores began empty, where no record was gone before, or stood at the batches before the start
abbrev pub BeganWell : Topology → Custom → Cut → MakerUse → Type 0
BeganWell t custom cut maker =
    (IsFirst cut × BeganEmpty t maker) ⊎ StoodBefore t custom cut maker

-- Nothing is in the way: the stores began well, no store failed, by a count that ends at 2^64 - 1,
-- each bolt lets batches through within the attempts of the plan, and no attempt ended because its
-- ids coincide.
pub record NothingIsInTheWay (t : Topology) (custom : Custom) (cut : Cut) (maker : MakerUse)
    (fates : List Attempt) : Type 0 where
  pub began : BeganWell t custom cut maker
  pub no_fault : Rose maker.faults_before maker.faults_after → ⊥
  pub can_finish : CanFinish t
  pub no_coincidence : All DoesNotCoincide fates

-- no record was left uncommitted, and the tables were read
abbrev pub IsAll : RunEnd → Type 0
IsAll (end.All tables) = Unit {0}
IsAll (end.Exhausted txid) = ⊥
IsAll (end.Unfinished many) = ⊥
IsAll end.StoreFault = ⊥
IsAll (end.BadCell key) = ⊥
IsAll (end.Follow txid) = ⊥
