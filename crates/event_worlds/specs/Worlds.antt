-- The world of tasks, ackers and the coordinator with their boxes, and what each step does to it.
-- Tasks and ackers after Storm's documentation, "Concepts" and "Acking framework implementation";
-- the steps are this project's own.
use Rattle.std.specs.Prelude.{ℕ, zero, suc, ◌+◌, ◌-◌, ◌^◌, ◌==◌, nat_lt, Bool, true, if◌then◌else◌, min, List, [], ◌∷◌, ◌++◌, length, map, take, drop, sum, Option, None, Some, is_some, slice_get, slice_set, slice_index_or, replicate}
use Rattle.std.specs.Option.{option_to_list}
use Rattle.std.specs.List.{filter_map, flat_map, range_with_len}
use Rattle.commit_order.specs.acker_core.declared.verdict.Verdict.{Verdict}
use Rattle.commit_order.specs.acker_core.Entries.{met, told_of}
use Rattle.commit_order.specs.attempt_fates.declared.fates.Attempt.{Attempt}
use Rattle.commit_order.specs.attempt_fates.declared.fates.End.{End}
use Rattle.commit_order.specs.attempt_fates.declared.fates.End.TheVariants as end
use Rattle.commit_order.specs.bolt_ops.RowOp.{Custom}
use Rattle.bolt_task.specs.Executing.{rows_of}
use Rattle.commit_order.specs.Orders.{Stand, opening_of, stand_after}
use Rattle.commit_order.specs.commit_turns.Account.{rows_at}
use Rattle.commit_order.specs.commit_turns.Desks.{Desk, Progress, first_desk}
use Rattle.commit_order.specs.commit_turns.Turns.{Turned, decided, is_finished, turned}
use Rattle.commit_order.specs.record_offers.Offers.{is_shut}
use Rattle.groupings.specs.Routing.{lanes_of}
use Rattle.commit_order.specs.output_collector.Draws.{given_after}
use Rattle.commit_order.specs.output_collector.Outlets.{after_rows, tasks_for}
use Rattle.commit_order.specs.rotating_ledger.Held.{Held, rotated}
use Rattle.commit_order.specs.state_parts.declared.answer.CommitOutcome.{CommitOutcome}
use Rattle.commit_order.specs.state_parts.declared.answer.CommitOutcome.TheVariants.{Done, Failed}
use Rattle.commit_order.specs.storm_values.declared.value.Value.{Value}
use Rattle.commit_order.specs.topology_plan.declared.parts.Origin.{Origin}
use Rattle.commit_order.specs.topology_plan.declared.parts.Origin.TheVariants as origin
use Rattle.commit_order.specs.topology_plan.Topology.{Topology, component_of, subs_of, tasks_in_all}
use Rattle.commit_order.specs.tree_model.Courses.{course_at}
use Rattle.commit_order.specs.tree_model.Trees.{kids, kids_of}
use Rattle.commit_order.specs.tree_model.declared.messages.AckMsg.{AckMsg}
use Rattle.commit_order.specs.tree_model.declared.messages.Parcel.{Parcel}
use Rattle.commit_order.specs.tree_model.declared.messages.Parcel.TheVariants.{ToTask, ToAcker}
use Rattle.commit_order.specs.tree_model.declared.messages.Tuple.{Tuple}
use Rattle.commit_order.specs.taken_records.Cuts.{Cut}
use Rattle.commit_order.specs.tuple_account.Issued.{node_of}
use Rattle.commit_order.specs.tuple_tickets.Tickets.{made_by}
use Rattle.commit_order.specs.tuple_account.Histories.{Execution, Opening, execution_parcels, opening_parcels}
use Rattle.commit_order.specs.commit_turns.declared.wait.Wait.{Wait}

-- ---- who has what

-- A task: the tuples in its box, the parcels that it has still to hand over, where the rows that it
-- makes go, and how many words its source of ids has given, up to 2^64 - 1.
pub record TaskSide : Type 0 where
  pub inbox : List Tuple
  pub outbox : List Parcel
  pub stand : Stand

-- An acker: the messages in its box, the verdicts that it has still to hand over, its entries, and
-- the number of the tick up to which they have aged.
pub record AckerSide : Type 0 where
  pub inbox : List AckMsg
  pub outbox : List Verdict
  pub entries : List (Held (List AckMsg))
  pub counted : ℕ

-- The tasks and the ackers in the order of their numbers, where the spout's rows go, the verdicts
-- in the coordinator's box, the parcels that it has still to hand over, what it knows, the number
-- of the last tick, the ticks since the coordinator's last turn, which end at 2^32 - 1, the
-- partitions that are shut, as bits, and the attempts that ended.
pub record World : Type 0 where
  pub tasks : List TaskSide
  pub ackers : List AckerSide
  pub spout : Stand
  pub verdicts : List Verdict
  pub orders : List Parcel
  pub desk : Desk
  pub tick : ℕ
  pub unheard : ℕ
  pub shut : ℕ
  pub fates : List Attempt

-- a number of ticks ends at 2^64 - 1
abbrev pub ended : ℕ → ℕ
ended n = min n (2 ^ 64 - 1)

-- no task and no acker has a number beyond those that are there; then it is as these
abbrev pub no_task : Topology → TaskSide
no_task t = record {
  inbox = [];
  outbox = [];
  stand = record { outlet = record { topology = t; from = origin.Spout; lanes = [] }; given = 0 };
}

abbrev pub no_acker : AckerSide
no_acker = record { inbox = []; outbox = []; entries = []; counted = 0 }

abbrev pub task_at : Topology → ℕ → World → TaskSide
task_at t n w = slice_index_or w.tasks n (no_task t)

abbrev pub acker_at : ℕ → World → AckerSide
acker_at n w = slice_index_or w.ackers n no_acker

-- ---- hand-overs

abbrev pub with_task : ℕ → TaskSide → World → World
with_task n side w = record w { tasks = slice_set w.tasks n side }

abbrev pub with_acker : ℕ → AckerSide → World → World
with_acker n side w = record w { ackers = slice_set w.ackers n side }

abbrev pub gets_tuple : Tuple → TaskSide → TaskSide
gets_tuple tuple side = record side { inbox = side.inbox ++ tuple ∷ [] }

abbrev pub gets_message : AckMsg → AckerSide → AckerSide
gets_message m side = record side { inbox = side.inbox ++ m ∷ [] }

-- a parcel comes to the back of the box that it names
abbrev pub delivered : Topology → Parcel → World → World
delivered t (ToTask n tuple) w = with_task n (gets_tuple tuple (task_at t n w)) w
delivered t (ToAcker n m) w = with_acker n (gets_message m (acker_at n w)) w

abbrev pub sent : Topology → Option Parcel → World → World
sent t None w = w
sent t (Some parcel) w = delivered t parcel w

-- ---- a task

-- a task after its step, and the parcel that it hands over
pub record Acted : Type 0 where
  pub side : TaskSide
  pub parcel : Option Parcel

-- where rows go, and how many words were given, after so many words for tuples of these rows
abbrev pub stand_moved : List (List Value) → ℕ → Stand → Stand
stand_moved rows count s =
    record { outlet = after_rows rows s.outlet; given = given_after s.given count }

module _ (t : Topology) (custom : Custom) where
  -- the execution of a tuple at a task, with these ids
  abbrev pub execution_by : ℕ → Stand → Tuple → List ℕ → Execution
  execution_by n s tuple ids = record {
    run = record { tuple = tuple; ids = ids; task = n; at = s.given };
    targets = tasks_for s.outlet.lanes (rows_of t custom tuple);
  }

  -- how many tuples the execution of a tuple makes, each of which needs an id
  abbrev pub tuples_made : Tuple → ℕ
  tuples_made tuple =
      length
      (made_by (course_at t custom tuple.root.attempt (node_of tuple))
      (kids_of t custom (node_of tuple)))

  -- the front tuple of the box is executed, with these ids
  abbrev pub executed : ℕ → List ℕ → TaskSide → List Tuple → TaskSide
  executed n ids side [] = side
  executed n ids side (tuple ∷ rest) = record {
    inbox = rest;
    outbox = execution_parcels t custom (execution_by n side.stand tuple ids);
    stand = stand_moved (rows_of t custom tuple) (length ids) side.stand;
  }

  -- a task hands over the front parcel of its outbox; with none there it executes a tuple
  abbrev pub acted_past : ℕ → List ℕ → TaskSide → List Parcel → Acted
  acted_past n ids side (parcel ∷ rest) =
      record { side = record side { outbox = rest }; parcel = Some parcel }
  acted_past n ids side [] =
      record { side = executed n ids side side.inbox; parcel = None }

  abbrev pub acted : ℕ → List ℕ → TaskSide → Acted
  acted n ids side = acted_past n ids side side.outbox

  abbrev pub needed_by : List Tuple → ℕ
  needed_by [] = 0
  needed_by (tuple ∷ rest) = tuples_made tuple

  abbrev pub needed_past : List Tuple → List Parcel → ℕ
  needed_past inbox (parcel ∷ rest) = 0
  needed_past inbox [] = needed_by inbox

  -- how many ids a task's step draws
  abbrev pub task_needs : TaskSide → ℕ
  task_needs side = needed_past side.inbox side.outbox

  -- what the step of a task does, with these ids
  abbrev pub task_step : ℕ → List ℕ → World → World
  task_step n ids w =
      sent t (acted n ids (task_at t n w)).parcel (with_task n (acted n ids (task_at t n w)).side w)

-- ---- an acker

-- an acker after its step, and the verdict that it hands over
pub record Answered : Type 0 where
  pub side : AckerSide
  pub verdict : Option Verdict

-- entries after so many rotations
abbrev pub aged : ℕ → ℕ → List (Held (List AckMsg)) → List (Held (List AckMsg))
aged buckets zero entries = entries
aged buckets (suc n) entries = rotated buckets (aged buckets n entries)

-- the entries age by the ticks since the last time
abbrev pub counted_up : ℕ → ℕ → AckerSide → AckerSide
counted_up buckets tick side =
    record side { entries = aged buckets (tick - side.counted) side.entries; counted = tick }

-- the front message of the box is met
abbrev pub meets : AckerSide → List AckMsg → AckerSide
meets side [] = side
meets side (m ∷ rest) = record side {
  inbox = rest;
  outbox = option_to_list (told_of m side.entries);
  entries = met m side.entries;
}

-- an acker hands over the front verdict of its outbox; with none there it rotates, and then meets
-- a message
abbrev pub answered_past : ℕ → ℕ → AckerSide → List Verdict → Answered
answered_past buckets tick side (verdict ∷ rest) =
    record { side = record side { outbox = rest }; verdict = Some verdict }
answered_past buckets tick side [] =
    record { side = meets (counted_up buckets tick side) side.inbox; verdict = None }

abbrev pub answered : ℕ → ℕ → AckerSide → Answered
answered buckets tick side = answered_past buckets tick side side.outbox

-- what the step of an acker does
abbrev pub acker_step : Topology → ℕ → World → World
acker_step t n w = record w {
  ackers = slice_set w.ackers n (answered t.buckets w.tick (acker_at n w)).side;
  verdicts = w.verdicts
      ++ option_to_list (answered t.buckets w.tick (acker_at n w)).verdict;
}

-- ---- the coordinator

module _ (t : Topology) (cut : Cut) where
  -- how many tuples an attempt begins with, each of which needs an id
  abbrev pub first_needs : Wait → ℕ
  first_needs w = length (kids t origin.Spout (rows_at cut w.spans))

  -- attempts begin one after another, each with the next of these ids
  abbrev pub opened : Stand → List Wait → List ℕ → List Opening
  opened s [] ids = []
  opened s (w ∷ begun) ids =
      opening_of cut s.outlet (tasks_in_all t) s.given w (take (first_needs w) ids)
      ∷ opened
      (stand_after
      (opening_of cut s.outlet (tasks_in_all t) s.given w (take (first_needs w) ids)) s)
      begun (drop (first_needs w) ids)

  -- where rows go, and how many words were given, after these openings
  abbrev pub stand_past : List Opening → Stand → Stand
  stand_past [] s = s
  stand_past (o ∷ openings) s = stand_past openings (stand_after o s)

  -- the front verdict is taken, and the coordinator has a turn that comes to this, with these ids
  abbrev pub with_turn : List ℕ → Turned t cut → World → World
  with_turn ids to w = record w {
    spout = stand_past (opened w.spout to.begun ids) w.spout;
    verdicts = drop 1 w.verdicts;
    orders = flat_map (opening_parcels t) (opened w.spout to.begun ids);
    desk = to.desk;
    unheard = 0;
    fates = w.fates ++ to.ended;
  }

  abbrev pub turned_in : World → Turned t cut
  turned_in w = turned t cut (slice_get w.verdicts 0) w.unheard w.shut w.desk

  -- the coordinator hands over the front parcel of its outbox; with none there it has a turn
  abbrev pub turn_past : List ℕ → World → List Parcel → World
  turn_past ids w (parcel ∷ rest) = delivered t parcel (record w { orders = rest })
  turn_past ids w [] = with_turn ids (turned_in w) w

  abbrev pub turn_step : List ℕ → World → World
  turn_step ids w = turn_past ids w w.orders

  abbrev pub turn_needs_past : World → List Parcel → ℕ
  turn_needs_past w (parcel ∷ rest) = 0
  turn_needs_past w [] = sum (map first_needs (turned_in w).begun)

  -- how many ids the coordinator's step draws
  abbrev pub turn_needs : World → ℕ
  turn_needs w = turn_needs_past w w.orders

  abbrev pub with_progress : Progress → World → World
  with_progress p w = record w { desk = p.desk; fates = w.fates ++ p.ended }

  -- a commit that was ordered came to this
  abbrev pub outcome_step : CommitOutcome → World → World
  outcome_step how w = if w.desk.out then with_progress (decided t cut how w.desk) w else w

-- a number of ticks that a turn counts ends at 2^32 - 1
abbrev pub ended_turn : ℕ → ℕ
ended_turn n = min n (2 ^ 32 - 1)

-- a tick
abbrev pub tick_step : World → World
tick_step w = record w { tick = ended (w.tick + 1); unheard = ended_turn (w.unheard + 1) }

-- ---- partitions

-- a partition is shut from now on, and each other one as it was
abbrev pub shut_with : ℕ → ℕ → ℕ
shut_with q shut = if is_shut shut q then shut else shut + 2 ^ q

-- it is open from now on
abbrev pub open_with : ℕ → ℕ → ℕ
open_with q shut = if is_shut shut q then shut - 2 ^ q else shut

abbrev pub shut_step : ℕ → World → World
shut_step q w = record w { shut = shut_with q w.shut }

abbrev pub open_step : ℕ → World → World
open_step q w = record w { shut = open_with q w.shut }

-- ---- steps

-- A step of a task, of an acker, of the coordinator up to a commit that it orders, the commit's
-- outcome, a tick, and a partition that is shut or opened.
pub data Step : Type 0 where
  of_task : (n : ℕ) → Step
  of_acker : (n : ℕ) → Step
  of_turn : Step
  of_outcome : Step
  of_tick : Step
  of_shut : (q : ℕ) → Step
  of_open : (q : ℕ) → Step

-- the coordinator has its step, and the commit that it orders is carried out
abbrev pub coordinator_steps : List Step
coordinator_steps = of_turn ∷ of_outcome ∷ []

-- each task has a step, each acker, and then the coordinator
abbrev pub round_steps : Topology → List Step
round_steps t =
    map of_task (range_with_len 0 (tasks_in_all t))
    ++ map of_acker (range_with_len 0 t.ackers)
    ++ coordinator_steps

abbrev pub rounds_steps : Topology → ℕ → List Step
rounds_steps t count = flat_map (λ k. round_steps t) (range_with_len 0 count)

-- ---- outcomes

-- what came of the commit of an attempt, where one was carried out
abbrev pub outcome_by : End → Option CommitOutcome
outcome_by (end.Committed list) = Some Done
outcome_by (end.Failed path) = None
outcome_by end.TimedOut = None
outcome_by (end.Coincided list) = None
outcome_by (end.CommitFailed component part before after) =
    Some (Failed component part before after)
outcome_by (end.Dropped by) = None

-- what came of the commits that were carried out, in order
abbrev pub outcomes_of : List Attempt → List CommitOutcome
outcomes_of fates = filter_map (λ (a : Attempt). outcome_by a.end) fates

-- the outcome of the next commit, which is done where none is listed
abbrev pub next_outcome : List CommitOutcome → List Attempt → CommitOutcome
next_outcome outcomes fates = slice_index_or outcomes (length (outcomes_of fates)) Done

-- ---- runs

-- a world, and how many words each source has given
pub record Known : Type 0 where
  pub world : World
  pub counts : ℕ → ℕ

abbrev pub drew : ℕ → ℕ → (ℕ → ℕ) → ℕ → ℕ
drew n count counts s = if s == n then counts s + count else counts s

-- so many next words of a source
abbrev pub next_words : (ℕ → ℕ → ℕ) → (ℕ → ℕ) → ℕ → ℕ → List ℕ
next_words words counts n count = map (words n) (range_with_len (counts n) count)

-- no record is left uncommitted, or as many attempts of a transaction aborted as a plan allows
abbrev pub is_over : Topology → Cut → World → Bool
is_over t cut w = if is_some w.desk.exhausted then true else is_finished t cut w.desk

module _ (t : Topology) (custom : Custom) (cut : Cut) (words : ℕ → ℕ → ℕ)
    (outcomes : List CommitOutcome) where
  -- what a step does, where sources have these words and commits come to these outcomes
  unfoldable pub step : Step → Known → Known
  step (of_task n) k = record {
    world = task_step t custom n
        (next_words words k.counts n (task_needs t custom (task_at t n k.world))) k.world;
    counts = drew n (task_needs t custom (task_at t n k.world)) k.counts;
  }
  step (of_acker n) k = record { world = acker_step t n k.world; counts = k.counts }
  step of_turn k = record {
    world = turn_step t cut
        (next_words words k.counts (tasks_in_all t) (turn_needs t cut k.world)) k.world;
    counts = drew (tasks_in_all t) (turn_needs t cut k.world) k.counts;
  }
  step of_outcome k = record {
    world = outcome_step t cut (next_outcome outcomes k.world.fates) k.world;
    counts = k.counts;
  }
  step of_tick k = record { world = tick_step k.world; counts = k.counts }
  step (of_shut q) k = record { world = shut_step q k.world; counts = k.counts }
  step (of_open q) k = record { world = open_step q k.world; counts = k.counts }

  -- when all is over nothing changes
  abbrev pub next : Step → Known → Known
  next s k = if is_over t cut k.world then k else step s k

  abbrev pub run : List Step → Known → Known
  run [] k = k
  run (s ∷ steps) k = run steps (next s k)

-- ---- the start

module _ (t : Topology) (words : ℕ → ℕ → ℕ) where
  -- a source of rows, with its source's first words as the start words of its subscriptions
  abbrev pub first_stand : ℕ → Origin → Stand
  first_stand n from = record {
    outlet = record {
      topology = t;
      from = from;
      lanes = lanes_of t (subs_of t from)
          (map (words n) (range_with_len 0 (length (subs_of t from))));
    };
    given = length (subs_of t from);
  }

  abbrev pub first_task : ℕ → TaskSide
  first_task n = record {
    inbox = [];
    outbox = [];
    stand = first_stand n (origin.Component (component_of t n));
  }

  -- where a source of rows is, by the number of its source of words
  abbrev pub origin_of : ℕ → Origin
  origin_of n = if n == tasks_in_all t then origin.Spout else origin.Component (component_of t n)

  -- each source of a task and of the coordinator gave its start words
  abbrev pub first_counts : ℕ → ℕ
  first_counts n =
      if nat_lt n (tasks_in_all t + 1) then length (subs_of t (origin_of n)) else 0

-- nothing was begun, and no partition is shut
abbrev pub first_world : Topology → Cut → (ℕ → ℕ → ℕ) → World
first_world t cut words = record {
  tasks = map (first_task t words) (range_with_len 0 (tasks_in_all t));
  ackers = replicate t.ackers no_acker;
  spout = first_stand t words (tasks_in_all t) origin.Spout;
  verdicts = [];
  orders = [];
  desk = first_desk cut;
  tick = 0;
  unheard = 0;
  shut = 0;
  fates = [];
}

abbrev pub first_known : Topology → Cut → (ℕ → ℕ → ℕ) → Known
first_known t cut words =
    record { world = first_world t cut words; counts = first_counts t words }

-- the world after some steps, where sources have these words and commits come to these outcomes
abbrev pub world_after : Topology → Custom → Cut → (ℕ → ℕ → ℕ) → List CommitOutcome → List Step
    → World
world_after t custom cut words outcomes steps =
    (run t custom cut words outcomes steps (first_known t cut words)).world
