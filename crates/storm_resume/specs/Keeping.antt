-- A keeper before and after a call, and what it holds of a run. This project's own.
use Rattle.std.specs.Prelude.{◌≡◌, ℕ, List, None, Some}
use Rattle.kept_commits.specs.KeptRuns.{IsHeldAfterRun, all_spans}
use Rattle.resume_meta.specs.Keepers.{Held}
use Rattle.resume_meta.specs.Meta.{meta_text}
use Rattle.resume_meta.specs.declared.meta.Meta.{Meta}
use Rattle.event_worlds.specs.attempt_fates.declared.fates.Attempt.{Attempt}
use Rattle.event_worlds.specs.storm_values.Counts.{Rose, raised}

-- what it told that it held, before and after, and how often it had failed, up to 2^64 - 1
pub record KeeperUse : Type 1 where
  pub held : Held → Type 0
  pub holds : Held → Type 0
  pub faults_before : ℕ
  pub faults_after : ℕ

-- the record of a keeper, from what its trait tells of it
abbrev pub keeper_use : {P : Type 0} → (P → Held → Type 0) → (P → ℕ) → P → P → KeeperUse
keeper_use holds count old new = record {
  held = holds old;
  holds = holds new;
  faults_before = count old;
  faults_after = count new;
}

-- the keeper failed
abbrev pub KeeperFailed : KeeperUse → Type 0
KeeperFailed keeper = Rose keeper.faults_before keeper.faults_after

-- it failed in one call
abbrev pub FailedOnce : KeeperUse → Type 0
FailedOnce keeper = keeper.faults_after ≡ raised keeper.faults_before

-- it failed in no call
abbrev pub NoFault : KeeperUse → Type 0
NoFault keeper = keeper.faults_after ≡ keeper.faults_before

-- it holds what it held
abbrev pub HoldsStill : KeeperUse → Type 0
HoldsStill keeper = (held : Held) → keeper.held held → keeper.holds held

-- it holds what it held, and did not fail
pub record IsUnchanged (keeper : KeeperUse) : Type 0 where
  pub same : HoldsStill keeper
  pub no_fault : NoFault keeper

-- where it told what it held, it holds the text of the meta after the start and these fates
abbrev pub HoldsAfter : KeeperUse → Meta → List Attempt → Type 0
HoldsAfter keeper start fates =
    (held : Held) → keeper.held held
    → (now : Held) × keeper.holds now × IsHeldAfterRun start fates now

-- What is held once all of so many records are committed, by transactions up to this one: the text
-- of their meta; or still nothing where there is no record.
abbrev pub IsHeldOfAll : ℕ → ℕ → Held → Type 0
IsHeldOfAll n txid None = n ≡ 0
IsHeldOfAll n txid (Some bytes) =
    bytes ≡ meta_text (record { txid = txid; records = n; spans = all_spans n })

-- where it told what it held, it holds that
abbrev pub HoldsAll : KeeperUse → ℕ → ℕ → Type 0
HoldsAll keeper n txid =
    (held : Held) → keeper.held held → (now : Held) × keeper.holds now × IsHeldOfAll n txid now
