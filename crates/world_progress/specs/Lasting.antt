-- Worlds in which nothing was lost: no entry was dropped, and no commit failed.
-- This project's own.
use Rattle.std.specs.Prelude.{◌≡◌, ◌≤◌, ◌<◌, ℕ, false, [], List, All}
use Rattle.std.specs.List.{AllByRecursion}
use Rattle.event_worlds.specs.attempt_fates.declared.fates.Attempt.{Attempt}
use Rattle.event_worlds.specs.bolt_ops.RowOp.{Custom}
use Rattle.event_worlds.specs.attempt_fates.Fates.{is_abort, is_failed_commit}
use Rattle.event_worlds.specs.Accounted.{LedTo}
use Rattle.event_worlds.specs.Worlds.{AckerSide, Known, World, acker_at}
use Rattle.event_worlds.specs.topology_plan.Topology.{Topology}
use Rattle.event_worlds.specs.taken_records.Cuts.{Cut}
use Rattle.event_worlds.specs.tuple_account.Histories.{History}
use Rattle.world_progress.specs.Young.{AreYoung}

-- an acker has counted ticks that passed, and its entries are not older
pub record IsSeat (t : Topology) (n tick : ℕ) (side : AckerSide) : Type 0 where
  pub counted : side.counted ≤ tick
  pub young : AreYoung t n side.counted side.entries

abbrev pub AreSeats : Topology → World → Type 0
AreSeats t w = (n : ℕ) → IsSeat t n w.tick (acker_at n w)

-- the attempt did not end by a commit that failed
abbrev pub IsFine : Attempt → Type 0
IsFine a = is_failed_commit a.end ≡ false

-- no attempt aborted, where there are partitions
abbrev pub NoneAborted : Cut → List Attempt → Type 0
NoneAborted cut fates = 0 < cut.partitions → All (λ (a : Attempt). is_abort a.end ≡ false) fates

-- A history led to a world; no entry was dropped, and no commit failed.
pub record Lasting (t : Topology) (custom : Custom) (cut : Cut) (words : ℕ → ℕ → ℕ) (h : History)
    (k : Known) : Type 0 where
  pub led : LedTo t custom cut words h k
  pub seats : AreSeats t k.world
  pub whole : h.dropped ≡ []
  pub fine : AllByRecursion IsFine k.world.fates
