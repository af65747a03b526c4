-- What comes into boxes and goes out of outboxes between events. This project's own.
use Rattle.std.specs.Prelude.{◌≡◌, ℕ, List, [], ◌∷◌, ◌++◌, map, Option, None, Some, slice_get, slice_index_or, slice_set}
use Rattle.std.specs.List.{flat_map}
use Rattle.event_worlds.specs.acker_core.declared.verdict.Verdict.{Verdict}
use Rattle.event_engine.specs.declared.acker.AckerSeat.{AckerSeat}
use Rattle.event_engine.specs.declared.engine.Engine.{Engine}
use Rattle.event_engine.specs.declared.task.TaskSeat.{TaskSeat}
use Rattle.event_engine.specs.Engines.{shape, sources, topology_in}
use Rattle.event_engine.specs.Seats.{AreSeats, acker_side, buckets_in, source_in, task_side}
use Rattle.event_worlds.specs.Worlds.{AckerSide, TaskSide, World, delivered, no_acker, task_at}
use Rattle.event_worlds.specs.storm_ids.declared.ids.Ids.{Ghosts}
use Rattle.event_worlds.specs.topology_plan.Topology.{Topology}
use Rattle.event_worlds.specs.tree_model.declared.messages.Parcel.{Parcel}
use Rattle.event_worlds.specs.tree_model.declared.messages.Tuple.{Tuple}

-- parcels come to the boxes that they name, the first first
abbrev pub delivered_all : Topology → List Parcel → World → World
delivered_all t [] w = w
delivered_all t (parcel ∷ rest) w = delivered_all t rest (delivered t parcel w)

-- ---- outboxes

-- a task that has handed over all
abbrev pub without_parcels : TaskSide → TaskSide
without_parcels side = record side { outbox = [] }

-- what tasks have to hand over, in their order
abbrev pub parcels_out : List TaskSide → List Parcel
parcels_out sides = flat_map (λ (s : TaskSide). s.outbox) sides

-- an acker that has handed over all
abbrev pub without_verdicts : AckerSide → AckerSide
without_verdicts side = record side { outbox = [] }

-- what ackers have to hand over, in their order
abbrev pub verdicts_out : List AckerSide → List Verdict
verdicts_out sides = flat_map (λ (s : AckerSide). s.outbox) sides

-- ---- the next tuple

-- the front tuple of a box, where nothing is to be handed over
abbrev pub next_past : List Tuple → List Parcel → Option Tuple
next_past inbox (parcel ∷ rest) = None
next_past inbox [] = slice_get inbox 0

-- the tuple that a task executes at its next event
abbrev pub next_tuple_at : Topology → ℕ → World → Option Tuple
next_tuple_at t n w = next_past (task_at t n w).inbox (task_at t n w).outbox

-- ---- seats of ackers

-- what the acker of a number had to hand over was put behind what others had
pub record GivesVerdictAt (n : ℕ) (before after : List Verdict) (old new : List AckerSeat)
    : Type 0 where
  pub given : after ≡ before ++ (slice_index_or (map acker_side old) n no_acker).outbox
  pub sides : map acker_side new
      ≡ slice_set (map acker_side old) n
      (without_verdicts (slice_index_or (map acker_side old) n no_acker))
  pub same_buckets : map buckets_in new ≡ map buckets_in old

-- what all of them had was given out
pub record GivesAllVerdicts (verdicts : List Verdict) (old new : List AckerSeat) : Type 0 where
  pub are : verdicts ≡ verdicts_out (map acker_side old)
  pub sides : map acker_side new ≡ map without_verdicts (map acker_side old)
  pub same_buckets : map buckets_in new ≡ map buckets_in old

module _ {I : Type 0} {g : Ghosts I} where
  -- ---- seats of tasks

  -- what the task of a number had to hand over was put behind what others had
  pub record GivesParcelsAt (n : ℕ) (given_before given_after : List Parcel)
      (old new : List (TaskSeat I g)) : Type 0 where
    pub before : TaskSeat I g
    pub after : TaskSeat I g
    pub at : slice_get old n ≡ Some before
    pub given : given_after ≡ given_before ++ before.outbox.items
    pub outbox : after.outbox.items ≡ []
    pub inbox : after.inbox ≡ before.inbox
    pub task : after.task ≡ before.task
    pub others : new ≡ slice_set old n after

  -- what all of them had was given out
  pub record GivesAllParcels (parcels : List Parcel) (old new : List (TaskSeat I g))
      : Type 0 where
    pub are : parcels ≡ parcels_out (map task_side old)
    pub sides : map task_side new ≡ map without_parcels (map task_side old)
    pub sources : map source_in new ≡ map source_in old
    pub seats : (t : Topology) → AreSeats t 0 old → AreSeats t 0 new

  -- ---- the engine

  -- parcels came to the boxes that they name, the first first
  pub record Receives (parcels : List Parcel) (old new : Engine I g) : Type 0 where
    pub same : shape new ≡ delivered_all (topology_in old) parcels (shape old)
    pub sources : sources new ≡ sources old

  -- what tasks had to hand over is given out
  pub record GivesParcels (parcels : List Parcel) (old new : Engine I g) : Type 0 where
    pub are : parcels ≡ parcels_out (shape old).tasks
    pub same : shape new
        ≡ record (shape old) { tasks = map without_parcels (shape old).tasks }
    pub sources : sources new ≡ sources old

  -- what ackers had to hand over is given out
  pub record GivesVerdicts (verdicts : List Verdict) (old new : Engine I g) : Type 0 where
    pub are : verdicts ≡ verdicts_out (shape old).ackers
    pub same : shape new
        ≡ record (shape old) { ackers = map without_verdicts (shape old).ackers }
    pub sources : sources new ≡ sources old
