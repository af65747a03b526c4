-- Worlds before and after a stretch of work. This project's own.
use Rattle.std.specs.Prelude.{◌≡◌, []}
use Rattle.std.specs.List.{AllByRecursion}
use Rattle.event_worlds.specs.acker_core.Entries.{AreSilent}
use Rattle.event_worlds.specs.bolt_ops.RowOp.{Custom}
use Rattle.event_worlds.specs.Accounted.{IsCounted}
use Rattle.event_worlds.specs.Orderly.{FitsParcel, IsOrderly}
use Rattle.event_worlds.specs.Worlds.{AckerSide, Known}
use Rattle.event_worlds.specs.topology_plan.Topology.{Topology}
use Rattle.event_worlds.specs.tree_model.declared.messages.Parcel.TheVariants.{ToTask}
use Rattle.event_worlds.specs.tuple_account.Histories.{Execution, History, IsExecution, execution_parcels}

-- only tuples were executed, messages met, verdicts told and entries dropped
pub record IsInside (h : History) : Type 0 where
  pub starts : h.starts ≡ []
  pub begun : h.begun ≡ []
  pub heard : h.heard ≡ []

-- all stands where it may stand
pub record IsFit (t : Topology) (k : Known) : Type 0 where
  pub orderly : IsOrderly t k.world
  pub counted : IsCounted t k
  pub silent : AllByRecursion (λ (side : AckerSide). AreSilent side.entries) k.world.ackers

-- the coordinator and the ticks are as they were
pub record LeavesDesk (k new : Known) : Type 0 where
  pub desk : new.world.desk ≡ k.world.desk
  pub fates : new.world.fates ≡ k.world.fates
  pub tick : new.world.tick ≡ k.world.tick
  pub unheard : new.world.unheard ≡ k.world.unheard

-- what executions of tuples that fit send fits
abbrev pub ExecutionsFit : Topology → Custom → Type 0
ExecutionsFit t custom =
    (e : Execution) → IsExecution t custom e → FitsParcel t (ToTask e.run.task e.run.tuple)
    → AllByRecursion (FitsParcel t) (execution_parcels t custom e)
