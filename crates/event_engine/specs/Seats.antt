-- Seats of the engine, and the sides of the world that they are. This project's own.
use Rattle.std.specs.Prelude.{◌≡◌, ◌<◌, ℕ, suc, Bool, true, false, List, [], ◌∷◌, ◌++◌, length, map, Option, Some, slice_get, slice_index_or, slice_set}
use Rattle.std.specs.List.{AllByRecursion}
use Rattle.std.specs.Option.{option_to_list}
use Rattle.event_worlds.specs.acker_core.declared.verdict.Verdict.{Verdict}
use Rattle.event_worlds.specs.bolt_ops.RowOp.{Custom}
use Rattle.event_worlds.specs.bolt_task.Executing.{IsFor, IsSameTask, MeetsAtOnce, collector_in, component_at, number_of, topology_at}
use Rattle.event_worlds.specs.commit_order.Orders.{stand_of}
use Rattle.event_engine.specs.declared.acker.AckerSeat.{AckerSeat}
use Rattle.event_engine.specs.declared.task.TaskSeat.{TaskSeat}
use Rattle.event_worlds.specs.Worlds.{AckerSide, TaskSide, acted, answered, executed, gets_message, needed_by, no_acker, task_needs}
use Rattle.event_worlds.specs.output_collector.Collectors.{ids_in}
use Rattle.event_worlds.specs.output_collector.Draws.{Draws}
use Rattle.event_worlds.specs.storm_ids.declared.ids.Ids.{Ghosts}
use Rattle.event_worlds.specs.topology_plan.Topology.{Topology, component_of}
use Rattle.event_worlds.specs.tuple_account.Histories.{acker_of}
use Rattle.event_worlds.specs.tree_model.declared.messages.AckMsg.{AckMsg}
use Rattle.event_worlds.specs.tree_model.declared.messages.Parcel.{Parcel}
use Rattle.event_worlds.specs.tree_model.declared.messages.Tuple.{Tuple}

-- each item has a property of its number, the first that of this number
abbrev pub AllFrom : {X : Type 0} → (ℕ → X → Type 0) → ℕ → List X → Type 0
AllFrom P n [] = Unit {0}
AllFrom P n (x ∷ xs) = P n x × AllFrom P (suc n) xs

-- ---- ackers

abbrev pub acker_side : AckerSeat → AckerSide
acker_side s = record {
  inbox = s.inbox.items;
  outbox = option_to_list s.outbox;
  entries = s.acker.held;
  counted = s.counted;
}

abbrev pub buckets_in : AckerSeat → ℕ
buckets_in s = s.acker.buckets

abbrev pub HasBuckets : ℕ → AckerSeat → Type 0
HasBuckets buckets s = buckets_in s ≡ buckets

-- a message came to the back of a seat's box
pub record PutsMessage (m : AckMsg) (n : ℕ) (old new : List AckerSeat) : Type 0 where
  pub sides : map acker_side new
      ≡ slice_set (map acker_side old) n
      (gets_message m (slice_index_or (map acker_side old) n no_acker))
  pub same_buckets : map buckets_in new ≡ map buckets_in old

-- the acker of a seat handed this over, or rotated and met a message
pub record AnswersAt (buckets tick n : ℕ) (verdict : Option Verdict) (old new : List AckerSeat)
    : Type 0 where
  pub sides : map acker_side new
      ≡ slice_set (map acker_side old) n
      (answered buckets tick (slice_index_or (map acker_side old) n no_acker)).side
  pub sent : verdict
      ≡ (answered buckets tick (slice_index_or (map acker_side old) n no_acker)).verdict
  pub same_buckets : map buckets_in new ≡ map buckets_in old

-- an acker has nothing in its box and nothing to hand over, and has counted all ticks
pub record IsIdleAt (tick : ℕ) (side : AckerSide) : Type 0 where
  pub inbox : side.inbox ≡ []
  pub outbox : side.outbox ≡ []
  pub counted : side.counted ≡ tick

-- ---- tasks

module _ {I : Type 0} {g : Ghosts I} where
  abbrev pub task_side : TaskSeat I g → TaskSide
  task_side s = record {
    inbox = s.inbox.items;
    outbox = s.outbox.items;
    stand = stand_of (collector_in s.task);
  }

  -- where a task's ids come from
  abbrev pub source_in : TaskSeat I g → I
  source_in s = ids_in (collector_in s.task)

  -- the seat is that of a task of a topology
  pub record IsSeatOf (t : Topology) (n : ℕ) (s : TaskSeat I g) : Type 0 where
    pub topology : topology_at s.task ≡ t
    pub component : component_at s.task ≡ component_of t n
    pub number : number_of s.task ≡ n

  -- the seats are those of the tasks from a number on
  abbrev pub AreSeats : Topology → ℕ → List (TaskSeat I g) → Type 0
  AreSeats t n seats = AllFrom (IsSeatOf t) n seats

  -- a task takes each tuple in its box
  abbrev pub Takes : TaskSeat I g → Type 0
  Takes s = AllByRecursion (IsFor s.task) s.inbox.items

  -- so does the task of a number
  abbrev pub TakesAt : ℕ → List (TaskSeat I g) → Type 0
  TakesAt n seats = (s : TaskSeat I g) → slice_get seats n ≡ Some s → Takes s

  -- the task of a number has a parcel to hand over
  abbrev pub HasParcelAt : ℕ → List (TaskSeat I g) → Type 0
  HasParcelAt n seats =
      (s : TaskSeat I g) → slice_get seats n ≡ Some s → 0 < length s.outbox.items

  -- or it has none
  abbrev pub HandedOverAt : ℕ → List (TaskSeat I g) → Type 0
  HandedOverAt n seats =
      (s : TaskSeat I g) → slice_get seats n ≡ Some s → s.outbox.items ≡ []

  -- a task executed its front tuple, if there was one, with these ids of its source
  pub record Works (tells : I → (ℕ → ℕ) → ℕ → Type 0) (t : Topology) (custom : Custom) (n : ℕ)
      (old new : TaskSeat I g) : Type 0 where
    pub ids : List ℕ
    pub enough : length ids ≡ needed_by t custom old.inbox.items
    pub side : task_side new ≡ executed t custom n ids (task_side old) old.inbox.items
    pub drawn : Draws tells (source_in old) ids (source_in new)
    pub same_task : IsSameTask new.task old.task

  -- a task handed this over, or executed its front tuple, with these ids of its source
  pub record Acts (tells : I → (ℕ → ℕ) → ℕ → Type 0) (t : Topology) (custom : Custom) (n : ℕ)
      (parcel : Option Parcel) (old new : TaskSeat I g) : Type 0 where
    pub ids : List ℕ
    pub enough : length ids ≡ task_needs t custom (task_side old)
    pub side : task_side new ≡ (acted t custom n ids (task_side old)).side
    pub sent : parcel ≡ (acted t custom n ids (task_side old)).parcel
    pub drawn : Draws tells (source_in old) ids (source_in new)
    pub same_task : IsSameTask new.task old.task

  -- the task of a seat among seats did
  pub record ActsAt (tells : I → (ℕ → ℕ) → ℕ → Type 0) (custom : Custom) (n : ℕ)
      (parcel : Option Parcel) (old new : List (TaskSeat I g)) : Type 0 where
    pub before : TaskSeat I g
    pub after : TaskSeat I g
    pub at : slice_get old n ≡ Some before
    pub acts : Acts tells (topology_at before.task) custom (number_of before.task) parcel before
        after
    pub others : new ≡ slice_set old n after

  -- a tuple came to the back of a seat's box
  pub record Puts (tuple : Tuple) (n : ℕ) (old new : List (TaskSeat I g)) : Type 0 where
    pub before : TaskSeat I g
    pub after : TaskSeat I g
    pub at : slice_get old n ≡ Some before
    pub inbox : after.inbox.items ≡ before.inbox.items ++ tuple ∷ []
    pub outbox : after.outbox ≡ before.outbox
    pub task : after.task ≡ before.task
    pub others : new ≡ slice_set old n after

-- ---- a part of a state and its acker

module _ {I : Type 0} {g : Ghosts I} where
  -- a task has handed over all, and tells this acker of its front tuple
  pub record TellsNext (a : ℕ) (s : TaskSeat I g) : Type 0 where
    pub tuple : Tuple
    pub rest : List Tuple
    pub front : s.inbox.items ≡ tuple ∷ rest
    pub handed : s.outbox.items ≡ []
    pub acker : a ≡ acker_of (topology_at s.task) tuple.root

  abbrev pub TellsNextAt : ℕ → ℕ → List (TaskSeat I g) → Type 0
  TellsNextAt n a seats = (s : TaskSeat I g) → slice_get seats n ≡ Some s → TellsNext a s

  -- a task executed its front tuple, and the acker met what it was told of it
  pub record Wrote (old new : TaskSeat I g) (before after : AckerSeat) : Type 0 where
    pub tuple : Tuple
    pub told : Option Verdict
    pub front : old.inbox.items ≡ tuple ∷ new.inbox.items
    pub outbox : new.outbox ≡ old.outbox
    pub meets : MeetsAtOnce tuple old.task new.task before.acker after.acker told
    pub same_task : IsSameTask new.task old.task
    pub acker : after ≡ record before { acker = after.acker; outbox = told }

  -- that, or nothing
  abbrev pub Writes : TaskSeat I g → TaskSeat I g → AckerSeat → AckerSeat → Bool → Type 0
  Writes old new before after true = Wrote old new before after
  Writes old new before after false = (new ≡ old) × (after ≡ before)

  -- the task of a seat among seats wrote, and one acker among ackers met it
  pub record WroteAt (n a : ℕ) (tasks left : List (TaskSeat I g)) (ackers others : List AckerSeat)
      : Type 0 where
    pub old : TaskSeat I g
    pub new : TaskSeat I g
    pub before : AckerSeat
    pub after : AckerSeat
    pub at : slice_get tasks n ≡ Some old
    pub there : slice_get ackers a ≡ Some before
    pub wrote : Wrote old new before after
    pub tasks_are : left ≡ slice_set tasks n new
    pub ackers_are : others ≡ slice_set ackers a after

  abbrev pub WritesAt : ℕ → ℕ → List (TaskSeat I g) → List (TaskSeat I g) → List AckerSeat
      → List AckerSeat → Bool → Type 0
  WritesAt n a tasks left ackers others true = WroteAt n a tasks left ackers others
  WritesAt n a tasks left ackers others false = (left ≡ tasks) × (others ≡ ackers)
