-- Followers of a run: what one call told one, and what is so where one fails. This project's own.
use Rattle.std.specs.Prelude.{◌≡◌, ℕ, ◌+◌, ◌⊎◌, IsTrue, List, [], ◌∷◌, ◌++◌, Option, length, Result, Ok, Err}
use Rattle.std.specs.Option.{option_map}
use Rattle.event_worlds.specs.attempt_fates.declared.fates.Attempt.{Attempt}
use Rattle.event_worlds.specs.attempt_fates.Fates.{committed_batches, committed_txids, is_committed}
use Rattle.batch_commits.specs.Standing.{PartsStand}
use Rattle.event_worlds.specs.bolt_ops.RowOp.{Custom}
use Rattle.event_worlds.specs.commit_order.declared.stop.Stop.{Stop}
use Rattle.event_worlds.specs.commit_order.declared.stop.Stop.TheVariants as stop
use Rattle.event_worlds.specs.commit_order.Follows.{FailsAtLast, Follows}
use Rattle.event_engine.specs.declared.engine.Engine.{Engine}
use Rattle.event_worlds.specs.record_spans.declared.span.Span.{Span}
use Rattle.event_worlds.specs.state_parts.declared.answer.Commit.{Commit}
use Rattle.event_worlds.specs.state_parts.declared.answer.CommitOutcome.{CommitOutcome}
use Rattle.event_worlds.specs.state_parts.declared.answer.CommitOutcome.TheVariants.{Done, Failed}
use Rattle.event_worlds.specs.state_parts.declared.parts.StatePart.{StatePart}
use Rattle.event_worlds.specs.storm_ids.declared.ids.Ids.{Ghosts}
use Rattle.event_worlds.specs.storm_values.Counts.{raised}
use Rattle.event_worlds.specs.Worlds.{Step}
use Rattle.schedule_core.specs.declared.ended.Ended.{Ended}
use Rattle.schedule_core.specs.declared.fault.RunFault.{RunFault}
use Rattle.schedule_core.specs.declared.fault.RunFault.TheVariants as fault
use Rattle.schedule_core.specs.Driving.{AreBefore, Drives, LeadsOn, RunsOut, WantsMemory}
use Rattle.storm_stores.specs.CellMaps.{CellMap}
use Rattle.event_worlds.specs.taken_records.Cuts.{Cut}
use Rattle.event_worlds.specs.topology_plan.Topology.{Topology}

-- the last end is the commit of a transaction
pub record EndsByCommit (txid : ℕ) (fates : List Attempt) : Type 0 where
  pub earlier : List Attempt
  pub last : Attempt
  pub added : fates ≡ earlier ++ last ∷ []
  pub done : IsTrue (is_committed last.end)
  pub number : last.root.txid ≡ txid

-- the transaction that is committed next
abbrev pub next_txid : Cut → List Attempt → ℕ
next_txid cut fates = cut.start + length (committed_txids fates) + 1

module _ {W : Type 0} (tells : W → List Commit → Type 0) (takes : W → Option ℕ) (count : W → ℕ) where
  -- ---- one commit

  -- a follower was told a commit
  pub record WasTold (commit : Commit) (was is : W) : Type 0 where
    pub told : (earlier : List Commit) → tells was earlier → tells is (earlier ++ commit ∷ [])
    pub takes_next : takes is ≡ option_map (λ txid. txid + 1) (takes was)
    pub quiet : count is ≡ count was

  -- it failed at a commit of this transaction, which it was told or not
  pub record FailedAt (txid : ℕ) (commit : Commit) (was is : W) : Type 0 where
    pub number : commit.root.txid ≡ txid
    pub perhaps : (earlier : List Commit) → tells was earlier
        → tells is earlier ⊎ tells is (earlier ++ commit ∷ [])
    pub failed : count is ≡ raised (count was)

  -- a follower is told a commit that was done, and of one that failed nothing
  abbrev pub TellsOf : CommitOutcome → Commit → Result (Unit {0}) RunFault → W → W → Type 0
  TellsOf Done commit (Ok done) was is = WasTold commit was is
  TellsOf Done commit (Err (fault.BadCell key)) was is = ⊥
  TellsOf Done commit (Err (fault.Follow txid)) was is = FailedAt txid commit was is
  TellsOf Done commit (Err fault.Memory) was is = count is ≡ count was
  TellsOf (Failed component part before after) commit (Ok done) was is = is ≡ was
  TellsOf (Failed component part before after) commit (Err why) was is = ⊥

module _ {W : Type 0} (tells : W → List Commit → Type 0) (count : W → ℕ) where
  -- ---- steps, and runs

  -- What a follower was told while attempts ended, whatever came of the steps. Where memory was
  -- wanted it is known that it did not fail.
  abbrev pub Followed : Result (Unit {0}) RunFault → (old new : List Attempt) → W → W → Type 0
  Followed (Ok done) old new was is = Follows tells count old new was is
  Followed (Err (fault.BadCell key)) old new was is = Follows tells count old new was is
  Followed (Err (fault.Follow txid)) old new was is = FailsAtLast tells count txid old new was is
  Followed (Err fault.Memory) old new was is = count is ≡ count was

  -- the same of a run that left these fates
  abbrev pub RunFollowed : Result Ended Stop → List Attempt → W → W → Type 0
  RunFollowed (Ok ending) fates was is = Follows tells count [] fates was is
  RunFollowed (Err (stop.Exhausted txid)) fates was is = Follows tells count [] fates was is
  RunFollowed (Err (stop.BadCell key)) fates was is = Follows tells count [] fates was is
  RunFollowed (Err (stop.Follow txid)) fates was is = FailsAtLast tells count txid [] fates was is
  RunFollowed (Err stop.Memory) fates was is = count is ≡ count was

module _ {I S : Type 0} {g : Ghosts I} (tells : I → (ℕ → ℕ) → ℕ → Type 0)
    (holds : S → CellMap → Type 0) (count : S → ℕ) (t : Topology) (custom : Custom) (cut : Cut)
  where
    -- An engine went through the first of these steps, up to the commit of a transaction at which a
    -- follower failed. The commit is the last end, and was tried when the earlier ones were there: so
    -- parts stand at what these say was committed too.
    pub record Unfollowed (whole : List Step) (txid : ℕ) (old new : Engine I g)
        (was is : List (StatePart S)) : Type 0 where
      pub steps : List Step
      pub rest : List Step
      pub first : whole ≡ steps ++ rest
      pub drives : Drives tells holds count t custom cut steps old new was is
      pub ends : EndsByCommit txid new.fates
      pub less : WantsMemory tells holds count t custom cut old ends.earlier was is

    -- the same of an engine that went on by steps or in any other way
    pub record LedUnfollowed (txid : ℕ) (old new : Engine I g) (was is : List (StatePart S))
        : Type 0 where
      pub leads : LeadsOn tells holds count t custom cut old new was is
      pub ends : EndsByCommit txid new.fates
      pub less : RunsOut tells holds count t custom cut old ends.earlier was is

-- Parts that stood at the batches before the start stand at these and those that were committed but
-- the last, which was the last end.
abbrev pub StandLess : {S : Type 0} → (S → CellMap → Type 0) → Topology → Custom → Cut
    → List Attempt → List (StatePart S) → List (StatePart S) → Type 0
StandLess holds t custom cut fates was is =
    (earlier : List Attempt) (last : Attempt) → fates ≡ earlier ++ last ∷ []
    → (before : List (List Span)) → AreBefore cut before
    → PartsStand holds t custom cut before was
    → PartsStand holds t custom cut (before ++ committed_batches earlier) is
