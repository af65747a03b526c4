-- What a task does over boxes. This project's own.
use Rattle.std.specs.Prelude.{◌≡◌, ◌<◌, ◌⊎◌, ℕ, ◌+◌, Bool, List, [], length, map}
use Rattle.std.specs.List.{AllByRecursion, range_with_len}
use Rattle.event_worlds.specs.bolt_ops.RowOp.{Custom}
use Rattle.event_worlds.specs.bolt_task.Executing.{Executes, collector_in, component_at, number_of, topology_at}
use Rattle.box_rows.specs.declared.mail.Mail.{Mail}
use Rattle.box_rows.specs.Rows.{CouldBeEmpty, sent_in, taken_in}
use Rattle.event_worlds.specs.commit_order.Orders.{stand_of}
use Rattle.event_worlds.specs.counted_items.Weights.{weigh}
use Rattle.event_worlds.specs.Orderly.{IsForTask, IsStandOf}
use Rattle.event_worlds.specs.output_collector.Collectors.{given_by, ids_in}
use Rattle.event_worlds.specs.output_collector.Draws.{Draws}
use Rattle.event_worlds.specs.storm_ids.declared.ids.Ids.{Ghosts}
use Rattle.task_queues.specs.declared.pass.Pass.{Pass}
use Rattle.event_worlds.specs.topology_plan.declared.parts.Origin.TheVariants as origin
use Rattle.event_worlds.specs.topology_plan.Topology.{Topology, component_of, tasks_in_all}
use Rattle.event_worlds.specs.tree_model.declared.messages.Parcel.{Parcel}
use Rattle.event_worlds.specs.tree_model.declared.messages.Parcel.TheVariants.{ToTask}
use Rattle.event_worlds.specs.tree_model.declared.messages.Tuple.{Tuple}
use Rattle.event_worlds.specs.tuple_account.Histories.{History, Packet, of_parcel, weigh_parcels}
use Rattle.event_worlds.specs.tuple_account.Moves.{HasDrawn, Station}
use Rattle.event_worlds.specs.tuple_account.Places.{spans}
use Rattle.worker_pool.specs.declared.desk.TaskDesk.{TaskDesk}
use Rattle.worker_pool.specs.Outboxes.{AddsAll, IsFrontFull, IsOutbox, weigh_outbox}
use Rattle.worker_pool.specs.Says.{Says}
use Rattle.worker_pool.specs.Works.{IsInside, Uses, Works, ended}

-- what the tuples that are left of a message weigh
abbrev pub weigh_inbox : (Packet → ℕ) → ℕ → List Tuple → ℕ
weigh_inbox f n inbox = weigh (λ (tuple : Tuple). f (of_parcel (ToTask n tuple))) inbox

module _ {I : Type 0} {g : Ghosts I} where
  abbrev pub source_at : TaskDesk I g → I
  source_at d = ids_in (collector_in d.task)

  abbrev pub given_at : TaskDesk I g → ℕ
  given_at d = given_by (collector_in d.task)

  -- The desk is that of a task of the topology: it takes the tuples that it has, its rows go along
  -- its own lanes, and its runs are mail.
  pub record IsDesk (t : Topology) (d : TaskDesk I g) : Type 0 where
    pub topology : topology_at d.task ≡ t
    pub number : number_of d.task ≡ d.number
    pub component : component_at d.task ≡ component_of t d.number
    pub there : d.number < tasks_in_all t
    pub inbox : AllByRecursion (IsForTask t d.number) d.inbox.items
    pub outbox : IsOutbox t d.outbox
    pub stand : IsStandOf t (origin.Component (component_of t d.number))
        (stand_of (collector_in d.task))

  -- what a desk holds, whose source gave so many words
  abbrev pub desk_station : ℕ → TaskDesk I g → Station
  desk_station count d = record {
    waiting = λ f. weigh_inbox f d.number d.inbox.items + weigh_outbox f d.outbox;
    kept = λ g. 0;
    given = λ s j. spans d.number 0 count s j;
  }

  -- what a desk took from its box, and has not executed
  abbrev pub desk_inbox : TaskDesk I g → (Packet → ℕ) → ℕ
  desk_inbox d f = weigh_inbox f d.number d.inbox.items

  -- how many tuples of a message are left
  abbrev pub task_left : TaskDesk I g → ℕ
  task_left d = length d.inbox.items

  -- A task can do nothing: the box of its front run could be full, or it has nothing, and its own
  -- box could be empty.
  pub record IsTaskHeld (d : TaskDesk I g) (row : List (Pass Mail)) : Type 0 where
    pub is : IsFrontFull d.outbox row
        ⊎ ((d.outbox ≡ []) × (d.inbox.items ≡ []) × CouldBeEmpty d.number row)

  abbrev pub TaskSays : Bool → TaskDesk I g → TaskDesk I g → List (Pass Mail) → List (Pass Mail)
      → Type 0
  TaskSays did old new was is = Says task_left IsTaskHeld did old new was is

  -- the tuples of a run came to the inbox, and all else stayed
  pub record Receives (run : List Parcel) (old new : TaskDesk I g) : Type 0 where
    pub inbox : (f : Packet → ℕ)
        → weigh_inbox f old.number new.inbox.items
        ≡ weigh_inbox f old.number old.inbox.items + weigh_parcels f run
    pub task : new.task ≡ old.task
    pub number : new.number ≡ old.number
    pub outbox : new.outbox ≡ old.outbox

  -- Mail came from a box or went to one, and the task stayed. What came from a box is in the inbox.
  pub record MovesMail (old new : TaskDesk I g) (was is : List (Pass Mail)) : Type 0 where
    pub task : new.task ≡ old.task
    pub number : new.number ≡ old.number
    pub packets : (f : Packet → ℕ)
        → (weigh_inbox f old.number new.inbox.items + weigh_outbox f new.outbox)
        + (sent_in is f + taken_in was f)
        ≡ (weigh_inbox f old.number old.inbox.items + weigh_outbox f old.outbox)
        + (sent_in was f + taken_in is f)
    pub inbox : (f : Packet → ℕ)
        → weigh_inbox f old.number new.inbox.items + taken_in was f
        ≡ weigh_inbox f old.number old.inbox.items + taken_in is f

  -- a tuple that is in no box any more was executed
  pub record RunsTuple (tells : I → (ℕ → ℕ) → ℕ → Type 0) (t : Topology) (custom : Custom)
      (tuple : Tuple) (old new : TaskDesk I g) : Type 0 where
    pub parcels : List Parcel
    pub executes : Executes tells custom tuple old.task new.task parcels
    pub number : new.number ≡ old.number
    pub inbox : new.inbox ≡ old.inbox
    pub adds : AddsAll parcels old.outbox new.outbox

  -- What happened at a desk that had given so many words, for which these ids were drawn. It
  -- executed what came from its box, and met and dropped nothing.
  pub record DeskWorked (t : Topology) (custom : Custom) (count : ℕ) (ids : List ℕ)
      (old new : TaskDesk I g) (was is : List (Pass Mail)) : Type 0 where
    pub history : History
    pub works : Works t custom (desk_station count old) was history
        (desk_station (count + length ids) new) is
    pub given : given_at new ≡ ended (count + length ids)
    pub drawn : (words : ℕ → ℕ → ℕ)
        → ids ≡ map (words old.number) (range_with_len count (length ids))
        → HasDrawn words history
    pub inside : IsInside history
    pub uses : Uses (desk_inbox old) was history (desk_inbox new) is
    pub none_met : history.met ≡ []
    pub none_dropped : history.dropped ≡ []

  -- A desk did what it did, with these ids of its source.
  pub record DeskDid (tells : I → (ℕ → ℕ) → ℕ → Type 0) (t : Topology) (custom : Custom)
      (old new : TaskDesk I g) (was is : List (Pass Mail)) : Type 0 where
    pub ids : List ℕ
    pub drawn : Draws tells (source_at old) ids (source_at new)
    pub number : new.number ≡ old.number
    pub worked : (count : ℕ) → given_at old ≡ ended count
        → DeskWorked t custom count ids old new was is
