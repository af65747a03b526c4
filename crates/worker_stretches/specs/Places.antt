-- Seats of an engine and the desks of workers that they become. This project's own.
use Rattle.std.specs.Prelude.{◌≡◌, ℕ, suc, ◌+◌, List, [], ◌∷◌, length, map, Vec}
use Rattle.event_worlds.specs.acker_core.Entries.{AreSilent}
use Rattle.std.specs.List.{AllByRecursion, range_with_len}
use Rattle.std.specs.List.Sorted.{IsPermutation}
use Rattle.std.specs.declared.alloc.Global.{Global}
use Rattle.event_engine.specs.declared.acker.AckerSeat.{AckerSeat}
use Rattle.event_engine.specs.declared.task.TaskSeat.{TaskSeat}
use Rattle.event_engine.specs.Seats.{AreSeats, HasBuckets, task_side}
use Rattle.event_worlds.specs.Orderly.{AreTasksOrderly}
use Rattle.event_worlds.specs.storm_ids.declared.ids.Ids.{Ghosts}
use Rattle.event_worlds.specs.topology_plan.Topology.{Topology, tasks_in_all}
use Rattle.event_worlds.specs.tuple_account.Histories.{Packet, weigh_parcels}
use Rattle.worker_pool.specs.declared.acker.AckerDesk.{AckerDesk}
use Rattle.worker_pool.specs.declared.desk.TaskDesk.{TaskDesk}
use Rattle.worker_pool.specs.Desks.{desk_station, weigh_inbox}
use Rattle.worker_stretches.specs.Hands.{items_in}

-- pairs of two lists are so, each by its number, the first by this one
abbrev pub ZipFrom : {X Y : Type 0} → (ℕ → X → Y → Type 0) → ℕ → List X → List Y → Type 0
ZipFrom R n [] [] = Unit {0}
ZipFrom R n [] (y ∷ ys) = ⊥
ZipFrom R n (x ∷ xs) [] = ⊥
ZipFrom R n (x ∷ xs) (y ∷ ys) = R n x y × ZipFrom R (suc n) xs ys

abbrev pub office_number : AckerDesk → ℕ
office_number d = d.number

-- no entry of an acker tells anything
abbrev pub IsSilent : AckerSeat → Type 0
IsSilent s = AreSilent s.acker.held

-- the acker of a number, at its seat and at its desk
pub record IsAckerAt (n : ℕ) (s : AckerSeat) (d : AckerDesk) : Type 0 where
  pub number : d.number ≡ n
  pub acker : d.acker ≡ s.acker
  pub inbox : d.inbox ≡ s.inbox
  pub outbox : d.outbox ≡ s.outbox
  pub counted : d.counted ≡ s.counted

module _ {I : Type 0} {g : Ghosts I} where
  abbrev pub desk_number : TaskDesk I g → ℕ
  desk_number d = d.number

  -- the task of a number, at its seat and at its desk, where the same waits
  pub record IsTaskAt (n : ℕ) (s : TaskSeat I g) (d : TaskDesk I g) : Type 0 where
    pub number : d.number ≡ n
    pub task : d.task ≡ s.task
    pub inbox : d.inbox ≡ s.inbox
    pub waiting : (f : Packet → ℕ) → (desk_station 0 d).waiting f
        ≡ weigh_inbox f n s.inbox.items + weigh_parcels f s.outbox.items

  -- seats of all tasks and of all ackers of a plan, by their numbers, where all stands where it may
  pub record AreAllSeats (t : Topology) (tasks : List (TaskSeat I g)) (ackers : List AckerSeat)
      : Type 0 where
    pub many_tasks : length tasks ≡ tasks_in_all t
    pub many_ackers : length ackers ≡ t.ackers
    pub seats : AreSeats t 0 tasks
    pub orderly : AreTasksOrderly t 0 (map task_side tasks)
    pub buckets : AllByRecursion (HasBuckets t.buckets) ackers

  -- the tasks and ackers of seats are in hands
  pub record AreInHands (tasks : List (TaskSeat I g)) (ackers : List AckerSeat)
      (hands : List (Vec (TaskDesk I g) Global)) (offices : List (Vec AckerDesk Global))
      : Type 0 where
    pub desks : List (TaskDesk I g)
    pub places : List AckerDesk
    pub tasks_at : ZipFrom IsTaskAt 0 tasks desks
    pub ackers_at : ZipFrom IsAckerAt 0 ackers places
    pub in_hands : IsPermutation desks (items_in hands)
    pub in_offices : IsPermutation places (items_in offices)

  -- hands have desks of all tasks, and offices of all ackers
  pub record HaveAll (t : Topology) (hands : List (Vec (TaskDesk I g) Global))
      (offices : List (Vec AckerDesk Global)) : Type 0 where
    pub tasks : IsPermutation (map desk_number (items_in hands))
        (range_with_len 0 (tasks_in_all t))
    pub ackers : IsPermutation (map office_number (items_in offices)) (range_with_len 0 t.ackers)
