-- What the steps of an engine do to the parts that its commits go to. This project's own.
use Rattle.std.specs.Prelude.{◌≡◌, ◌≤◌, ℕ, ◌+◌, List, [], ◌++◌, All, None, Some, length, slice_get}
use Rattle.std.specs.List.{AllZip}
use Rattle.event_worlds.specs.attempt_fates.declared.fates.Attempt.{Attempt}
use Rattle.event_worlds.specs.attempt_fates.Fates.{committed_batches}
use Rattle.batch_commits.specs.Standing.{AllButLastAreCounted, FailuresAreCounted, HasStrangeAt, PartsStand}
use Rattle.event_worlds.specs.bolt_ops.RowOp.{Custom, IsCustom}
use Rattle.event_worlds.specs.commit_turns.Outcomes.{IsOutcome}
use Rattle.event_engine.specs.declared.engine.Engine.{Engine}
use Rattle.event_engine.specs.Engines.{Gives, Goes, HasOutcomes, IsIdle, IsReady, cut_in, shape, sources, topology_in}
use Rattle.event_worlds.specs.Accounted.{Accounted, IsInput, LedAt}
use Rattle.event_worlds.specs.Worlds.{Known, Step, outcomes_of}
use Rattle.event_worlds.specs.output_collector.Draws.{Draws}
use Rattle.event_worlds.specs.record_offers.Offers.{is_gone}
use Rattle.event_worlds.specs.record_spans.declared.span.Span.{Span}
use Rattle.event_worlds.specs.state_parts.Commits.{IsBadAt}
use Rattle.event_worlds.specs.state_parts.declared.answer.CommitOutcome.{CommitOutcome}
use Rattle.event_worlds.specs.state_parts.declared.parts.StatePart.{StatePart}
use Rattle.event_worlds.specs.state_parts.PartPlans.{AreParts, plans_of}
use Rattle.event_worlds.specs.storm_ids.declared.ids.Ids.{Ghosts}
use Rattle.storm_stores.specs.CellMaps.{CellMap}
use Rattle.event_worlds.specs.taken_records.Cuts.{Cut}
use Rattle.event_worlds.specs.taken_records.Taken.{one_if, times_in}
use Rattle.event_worlds.specs.topology_plan.Topology.{Topology}
use Rattle.event_worlds.specs.tuple_account.Histories.{History}
use Rattle.event_worlds.specs.tuple_account.Moves.{Station}

-- ---- batches before the start

-- The batches of the transactions up to the start, in order: each record that was gone at the start
-- stands in one of them, and no other record does.
pub record AreBefore (cut : Cut) (before : List (List Span)) : Type 0 where
  pub many : length before ≡ cut.start
  pub gone : (n : ℕ) → 1 ≤ n → n ≤ length cut.gone
      → times_in before n ≡ one_if (is_gone cut.gone n)

-- Where parts stood at the batches before the start, and then those that some fates say were
-- committed, what they came to stands at the first of these, and then those of other fates.
abbrev pub StandOn : {S : Type 0} → (S → CellMap → Type 0) → Topology → Custom → Cut
    → (old new : List Attempt) → List (StatePart S) → List (StatePart S) → Type 0
StandOn holds t custom cut old new was is =
    (before : List (List Span)) → AreBefore cut before
    → PartsStand holds t custom cut (before ++ committed_batches old) was
    → PartsStand holds t custom cut (before ++ committed_batches new) is

-- ---- parts that can be given back

-- a store that told its cells tells some
abbrev pub StillTells : {S : Type 0} → (S → CellMap → Type 0) → StatePart S → StatePart S → Type 0
StillTells tells was is =
    (cells : CellMap) → tells was.over.store cells
    → (after : CellMap) × tells is.over.store after

-- The parts are those that they were, and each store that told its cells tells some. So the stores
-- can be given back, whatever was answered.
pub record AreKept {S : Type 0} (tells : S → CellMap → Type 0) (old new : List (StatePart S))
    : Type 0 where
  pub plans : plans_of new ≡ plans_of old
  pub told : AllZip (StillTells tells) old new

module _ {I : Type 0} {g : Ghosts I} where
  -- an engine is ready for the next event, and no ordered commit is out
  pub record IsAtRest (e : Engine I g) : Type 0 where
    pub ready : IsReady (topology_in e) (cut_in e) e
    pub idle : IsIdle e

  -- both are of one plan and one input
  pub record IsOfSameRun (old new : Engine I g) : Type 0 where
    pub topology : topology_in new ≡ topology_in old
    pub cut : cut_in new ≡ cut_in old

  -- a world has an engine's desk and fates, whatever else waits in it
  pub record HasDeskOf (e : Engine I g) (k : Known) : Type 0 where
    pub desk : k.world.desk ≡ (shape e).desk
    pub fates : k.world.fates ≡ e.fates

module _ {I S : Type 0} {g : Ghosts I} where
  -- An engine goes through these steps, and its commits through the parts.
  pub record Drives (tells : I → (ℕ → ℕ) → ℕ → Type 0) (holds : S → CellMap → Type 0)
      (count : S → ℕ) (t : Topology) (custom : Custom) (cut : Cut) (steps : List Step)
      (old new : Engine I g) (was is : List (StatePart S)) : Type 0 where
    pub goes : Goes tells t custom cut steps old new
    pub plans : plans_of is ≡ plans_of was
    -- the outcomes that were added are such as commits have
    pub outcomes : AreParts t was → All (IsOutcome t) (outcomes_of old.fates)
        → All (IsOutcome t) (outcomes_of new.fates)
    -- parts that stand at what was committed stand at what is committed
    pub stands : (words : ℕ → ℕ → ℕ) (counts : ℕ → ℕ) (outcomes : List CommitOutcome)
        → Gives words counts goes.given → HasOutcomes outcomes new.fates
        → IsInput t cut → IsCustom custom → All (IsOutcome t) outcomes
        → Accounted t custom cut words (record { world = shape old; counts = counts })
        → AreParts t was → StandOn holds t custom cut old.fates new.fates was is
    -- a bad or strange cell was there before, at the same key
    pub bad : (key : List ℕ) → IsBadAt holds is key → IsBadAt holds was key
    pub strange : (key : List ℕ) → HasStrangeAt holds is key → HasStrangeAt holds was key
    pub counted : FailuresAreCounted count goes.more was is

  -- An engine went on, by steps or in any other way, and its commits through the parts: sources
  -- gave words, attempts ended, and where a history led to the first world, some history leads to
  -- the second.
  pub record LeadsOn (tells : I → (ℕ → ℕ) → ℕ → Type 0) (holds : S → CellMap → Type 0)
      (count : S → ℕ) (t : Topology) (custom : Custom) (cut : Cut) (old new : Engine I g)
      (was is : List (StatePart S)) : Type 0 where
    pub given : ℕ → List ℕ
    pub draws : (s : ℕ) (before : I) → slice_get (sources old) s ≡ Some before
        → (after : I) × (slice_get (sources new) s ≡ Some after)
        × Draws tells before (given s) after
    pub none : (s : ℕ) → slice_get (sources old) s ≡ None
        → (given s ≡ []) × (slice_get (sources new) s ≡ None)
    pub more : List Attempt
    pub added : new.fates ≡ old.fates ++ more
    pub led : (words : ℕ → ℕ → ℕ) (counts : ℕ → ℕ) (outcomes : List CommitOutcome)
        → Gives words counts given → HasOutcomes outcomes new.fates
        → IsInput t cut → IsCustom custom → All (IsOutcome t) outcomes
        → Accounted t custom cut words (record { world = shape old; counts = counts })
        → Accounted t custom cut words
        (record { world = shape new; counts = λ s. counts s + length (given s) })
    -- the parts, as `Drives` has it
    pub plans : plans_of is ≡ plans_of was
    pub outcomes : AreParts t was → All (IsOutcome t) (outcomes_of old.fates)
        → All (IsOutcome t) (outcomes_of new.fates)
    pub stands : (words : ℕ → ℕ → ℕ) (counts : ℕ → ℕ) (outcomes : List CommitOutcome)
        → Gives words counts given → HasOutcomes outcomes new.fates
        → IsInput t cut → IsCustom custom → All (IsOutcome t) outcomes
        → Accounted t custom cut words (record { world = shape old; counts = counts })
        → AreParts t was → StandOn holds t custom cut old.fates new.fates was is
    pub bad : (key : List ℕ) → IsBadAt holds is key → IsBadAt holds was key
    pub strange : (key : List ℕ) → HasStrangeAt holds is key → HasStrangeAt holds was key
    pub counted : FailuresAreCounted count more was is

  -- Where sources have these words a run has come to an engine and to parts: some history led to
  -- its world, parts that stood at the batches before the start stand at what is committed, and
  -- stores failed as the fates tell.
  pub record HasCome (holds : S → CellMap → Type 0) (count : S → ℕ) (t : Topology)
      (custom : Custom) (cut : Cut) (words : ℕ → ℕ → ℕ) (e : Engine I g)
      (was is : List (StatePart S)) : Type 0 where
    pub counts : ℕ → ℕ
    pub led : Accounted t custom cut words (record { world = shape e; counts = counts })
    pub planned : AreParts t was
    pub plans : plans_of is ≡ plans_of was
    pub stands : StandOn holds t custom cut [] e.fates was is
    pub strange : (key : List ℕ) → HasStrangeAt holds is key → HasStrangeAt holds was key
    pub counted : FailuresAreCounted count e.fates was is

  -- A fault stopped an engine, which left these fates and parts: some attempts may have ended, and
  -- a last commit may have been tried that no fate tells.
  pub record Leaves (holds : S → CellMap → Type 0) (count : S → ℕ) (t : Topology)
      (custom : Custom) (cut : Cut) (old : Engine I g) (fates : List Attempt)
      (was is : List (StatePart S)) : Type 0 where
    pub more : List Attempt
    pub added : fates ≡ old.fates ++ more
    pub stands : (words : ℕ → ℕ → ℕ) (all : Station) (h : History) (k : Known)
        → HasDeskOf old k → IsInput t cut → LedAt t custom cut words all h k
        → AreParts t was → StandOn holds t custom cut old.fates fates was is
    pub strange : (key : List ℕ) → HasStrangeAt holds is key → HasStrangeAt holds was key
    pub counted : AllButLastAreCounted count more was is

  -- A bad cell stopped an engine that had gone on to where it is, which was there before, at that
  -- key.
  pub record BreaksOff (tells : I → (ℕ → ℕ) → ℕ → Type 0) (holds : S → CellMap → Type 0)
      (count : S → ℕ) (t : Topology) (custom : Custom) (cut : Cut) (key : List ℕ)
      (old new : Engine I g) (was is : List (StatePart S)) : Type 0 where
    pub between : List (StatePart S)
    pub leads : LeadsOn tells holds count t custom cut old new was between
    pub leaves : Leaves holds count t custom cut new new.fates between is
    pub bad : IsBadAt holds was key

  -- want of memory stopped an engine that had gone on, and it left these fates and parts
  pub record RunsOut (tells : I → (ℕ → ℕ) → ℕ → Type 0) (holds : S → CellMap → Type 0)
      (count : S → ℕ) (t : Topology) (custom : Custom) (cut : Cut) (old : Engine I g)
      (fates : List Attempt) (was is : List (StatePart S)) : Type 0 where
    pub mid : Engine I g
    pub between : List (StatePart S)
    pub leads : LeadsOn tells holds count t custom cut old mid was between
    pub leaves : Leaves holds count t custom cut mid fates between is

  -- a bad cell was met after the first of these steps, which was there before them at that key
  pub record Breaks (tells : I → (ℕ → ℕ) → ℕ → Type 0) (holds : S → CellMap → Type 0)
      (count : S → ℕ) (t : Topology) (custom : Custom) (cut : Cut) (whole : List Step)
      (key : List ℕ) (old new : Engine I g) (was is : List (StatePart S)) : Type 0 where
    pub steps : List Step
    pub rest : List Step
    pub first : whole ≡ steps ++ rest
    pub between : List (StatePart S)
    pub drives : Drives tells holds count t custom cut steps old new was between
    pub leaves : Leaves holds count t custom cut new new.fates between is
    pub bad : IsBadAt holds was key

  -- memory was wanted after some steps, which left these fates and parts
  pub record WantsMemory (tells : I → (ℕ → ℕ) → ℕ → Type 0) (holds : S → CellMap → Type 0)
      (count : S → ℕ) (t : Topology) (custom : Custom) (cut : Cut) (old : Engine I g)
      (fates : List Attempt) (was is : List (StatePart S)) : Type 0 where
    pub steps : List Step
    pub mid : Engine I g
    pub between : List (StatePart S)
    pub drives : Drives tells holds count t custom cut steps old mid was between
    pub leaves : Leaves holds count t custom cut mid fates between is
