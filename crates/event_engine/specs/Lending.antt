-- What leaves an engine and comes back to it, beside its events. This project's own.
use Rattle.std.specs.Prelude.{◌≡◌, ◌≤◌, ◌-◌, ◌^◌, false, List, [], ◌∷◌, ◌++◌, map}
use Rattle.event_worlds.specs.acker_core.declared.verdict.Verdict.{Verdict}
use Rattle.event_worlds.specs.commit_order.Orders.{IsOwn, desk_of, wanted_memory}
use Rattle.event_worlds.specs.commit_turns.Kept.{IsKept}
use Rattle.event_engine.specs.declared.acker.AckerSeat.{AckerSeat}
use Rattle.event_engine.specs.declared.engine.Engine.{Engine}
use Rattle.event_engine.specs.declared.task.TaskSeat.{TaskSeat}
use Rattle.event_engine.specs.Engines.{cut_in, shape, sources, topology_in}
use Rattle.event_engine.specs.Seats.{acker_side, task_side}
use Rattle.event_worlds.specs.Accounted.{IsInput}
use Rattle.event_worlds.specs.storm_ids.declared.ids.Ids.{Ghosts}
use Rattle.event_worlds.specs.topology_plan.Topology.{Topology}
use Rattle.event_worlds.specs.tree_model.declared.messages.Parcel.{Parcel}
use Rattle.event_worlds.specs.taken_records.Cuts.{Cut}

module _ {I : Type 0} {g : Ghosts I} where
  -- one more verdict waits
  pub record Hears (verdict : Verdict) (old new : Engine I g) : Type 0 where
    pub same : shape new
        ≡ record (shape old) { verdicts = (shape old).verdicts ++ verdict ∷ [] }
    pub sources : sources new ≡ sources old

  -- the parcels that were to be handed over are given out
  pub record GivesOrders (orders : List Parcel) (old new : Engine I g) : Type 0 where
    pub are : orders ≡ old.orders.items
    pub same : shape new ≡ record (shape old) { orders = [] }
    pub sources : sources new ≡ sources old

  -- all seats are given out, and nothing else changes
  pub record Lends (seats : List (TaskSeat I g)) (offices : List AckerSeat)
      (old new : Engine I g) : Type 0 where
    pub tasks : seats ≡ old.tasks.items
    pub ackers : offices ≡ old.ackers.items
    pub same : shape new ≡ record (shape old) { tasks = []; ackers = [] }

  -- these seats came in the place of those that are there, and nothing else changes
  pub record Returns (seats : List (TaskSeat I g)) (offices : List AckerSeat)
      (old new : Engine I g) : Type 0 where
    pub tasks : new.tasks.items ≡ seats
    pub ackers : new.ackers.items ≡ offices
    pub same : shape new
        ≡ record (shape old) { tasks = map task_side seats; ackers = map acker_side offices }

  -- all but the seats is as an event needs it, wherever the seats are
  pub record IsLent (t : Topology) (cut : Cut) (e : Engine I g) : Type 0 where
    pub input : IsInput t cut
    pub plan : e.plan.now ≡ t
    pub own : IsOwn e.coordinator
    pub of_topology : topology_in e ≡ t
    pub of_cut : cut_in e ≡ cut
    pub kept : IsKept t cut (desk_of e.coordinator) e.fates
    pub ticks : (desk_of e.coordinator).tick ≤ 2 ^ 64 - 1
    pub has_memory : wanted_memory e.coordinator ≡ false
