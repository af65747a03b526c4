-- What happened: what was begun, executed, met, told, dropped and heard, each a list in any
-- order. This project's own.
use Rattle.std.specs.Prelude.{◌≡◌, ◌<◌, ℕ, ◌+◌, ◌%◌, if◌then◌else◌, List, [], ◌∷◌, ◌++◌, length, map, Some}
use Rattle.acker_core.specs.declared.verdict.Verdict.{Verdict}
use Rattle.acker_core.specs.Entries.{tell}
use Rattle.tree_model.specs.bolt_ops.RowOp.{Custom}
use Rattle.tree_model.specs.counted_items.Weights.{weigh}
use Rattle.tree_model.specs.storm_values.declared.value.Root.{Root}
use Rattle.tree_model.specs.storm_values.declared.value.Value.{Value}
use Rattle.tree_model.specs.topology_plan.declared.parts.Origin.TheVariants as origin
use Rattle.tree_model.specs.topology_plan.Topology.{Topology, tasks_in_all, component_of}
use Rattle.tree_model.specs.tuple_tickets.Roots.{root_eq}
use Rattle.tree_model.specs.tuple_tickets.Tickets.{made_by}
use Rattle.tree_model.specs.declared.messages.AckMsg.{AckMsg}
use Rattle.tree_model.specs.declared.messages.Parcel.{Parcel}
use Rattle.tree_model.specs.declared.messages.Parcel.TheVariants.{ToTask, ToAcker}
use Rattle.tree_model.specs.declared.messages.Tuple.{Tuple}
use Rattle.tree_model.specs.Lists.{root_of}
use Rattle.tree_model.specs.Trees.{kids, kids_of}
use Rattle.tuple_account.specs.Issued.{Begun, Run, node_of, first_tuples, init_of, course_of_run, children_of, notes_of}
use Rattle.tuple_account.specs.Places.{spans}

-- what stands in a box or an outbox: a parcel, with the box that it is for, or a
-- verdict for the coordinator
pub data Packet : Type 0 where
  of_parcel : (parcel : Parcel) → Packet
  of_verdict : (verdict : Verdict) → Packet

-- ---- items of a history

-- words of a source from a place on, at which its shuffles start
pub record Start : Type 0 where
  pub source : ℕ
  pub at : ℕ
  pub count : ℕ

-- a root that was begun, and the tasks that its first tuples go to
pub record Opening : Type 0 where
  pub begun : Begun
  pub targets : List ℕ

-- a tuple that was executed, and the tasks that the tuples made go to
pub record Execution : Type 0 where
  pub run : Run
  pub targets : List ℕ

-- a message that an acker took from its box
pub record Receipt : Type 0 where
  pub acker : ℕ
  pub message : AckMsg

-- a verdict, with the root and the list of the entry that told it
pub record Told : Type 0 where
  pub root : Root
  pub list : List AckMsg
  pub verdict : Verdict

-- What happened between two moments. Entries that a rotation dropped are told by
-- their root and list; verdicts that were heard are those that the coordinator took.
pub record History : Type 0 where
  pub starts : List Start
  pub begun : List Opening
  pub runs : List Execution
  pub met : List Receipt
  pub told : List Told
  pub dropped : List (Root × List AckMsg)
  pub heard : List Verdict

abbrev pub nothing : History
nothing = record {
  starts = [];
  begun = [];
  runs = [];
  met = [];
  told = [];
  dropped = [];
  heard = [];
}

-- both, in any order
abbrev pub joined : History → History → History
joined h k = record {
  starts = h.starts ++ k.starts;
  begun = h.begun ++ k.begun;
  runs = h.runs ++ k.runs;
  met = h.met ++ k.met;
  told = h.told ++ k.told;
  dropped = h.dropped ++ k.dropped;
  heard = h.heard ++ k.heard;
}

-- ---- what is sent

-- each tuple to its task
abbrev pub to_tasks : List Tuple → List ℕ → List Parcel
to_tasks [] targets = []
to_tasks (tuple ∷ tuples) [] = []
to_tasks (tuple ∷ tuples) (task ∷ targets) = ToTask task tuple ∷ to_tasks tuples targets

-- the acker of a root, by its transaction
abbrev pub acker_of : Topology → Root → ℕ
acker_of t root = root.txid % t.ackers

-- a message to the acker of its root
abbrev pub to_acker : Topology → AckMsg → Parcel
to_acker t m = ToAcker (acker_of t (root_of m)) m

-- the first tuples, and the init
abbrev pub opening_parcels : Topology → Opening → List Parcel
opening_parcels t o =
    to_tasks (first_tuples t o.begun) o.targets ++ to_acker t (init_of t o.begun) ∷ []

-- the tuples that were made, and then what the acker is told
abbrev pub execution_parcels : Topology → Custom → Execution → List Parcel
execution_parcels t custom e =
    to_tasks (children_of t custom e.run) e.targets ++ map (to_acker t) (notes_of t custom e.run)

-- ---- items that are well made

-- the task is one of the component's
pub record IsTaskOf (t : Topology) (component task : ℕ) : Type 0 where
  pub there : task < tasks_in_all t
  pub belongs : component_of t task ≡ component

-- each tuple goes to a task of its component
abbrev pub GoTo : Topology → List Tuple → List ℕ → Type 0
GoTo t [] targets = Unit {0}
GoTo t (tuple ∷ tuples) [] = ⊥
GoTo t (tuple ∷ tuples) (task ∷ targets) = IsTaskOf t tuple.component task × GoTo t tuples targets

-- a root begins with an id of the coordinator's source for each first node
pub record IsOpening (t : Topology) (o : Opening) : Type 0 where
  pub source : o.begun.source ≡ tasks_in_all t
  pub ids : length o.begun.ids ≡ length (kids t origin.Spout o.begun.rows)
  pub sent : GoTo t (first_tuples t o.begun) o.targets

-- an execution draws an id for each child where the node goes on, and else none
pub record IsExecution (t : Topology) (custom : Custom) (e : Execution) : Type 0 where
  pub ids : length e.run.ids
      ≡ length
      (made_by (course_of_run t custom e.run) (kids_of t custom (node_of e.run.tuple)))
  pub sent : GoTo t (children_of t custom e.run) e.targets

-- the verdict is what the list comes to
abbrev pub IsTold : Told → Type 0
IsTold x = tell x.root x.list ≡ Some x.verdict

-- ---- weights

abbrev pub weigh_parcels : (Packet → ℕ) → List Parcel → ℕ
weigh_parcels f parcels = weigh (λ (p : Parcel). f (of_parcel p)) parcels

abbrev pub on_tuple : (Tuple → ℕ) → Packet → ℕ
on_tuple f (of_parcel (ToTask task tuple)) = f tuple
on_tuple f (of_parcel (ToAcker acker m)) = 0
on_tuple f (of_verdict v) = 0

-- what was met, told and dropped, by the root of the entry and the message
abbrev pub met_in : (Root → AckMsg → ℕ) → History → ℕ
met_in g h = weigh (λ (x : Receipt). g (root_of x.message) x.message) h.met

abbrev pub told_in : (Root → AckMsg → ℕ) → History → ℕ
told_in g h = weigh (λ (x : Told). weigh (g x.root) x.list) h.told

abbrev pub dropped_in : (Root → AckMsg → ℕ) → History → ℕ
dropped_in g h = weigh (λ (x : Root × List AckMsg). weigh (g x.0) x.1) h.dropped

-- how often word j of source s was drawn
abbrev pub start_spans : ℕ → ℕ → Start → ℕ
start_spans s j x = spans x.source x.at x.count s j

abbrev pub opening_spans : ℕ → ℕ → Opening → ℕ
opening_spans s j o = spans o.begun.source o.begun.at (length o.begun.ids) s j

abbrev pub execution_spans : ℕ → ℕ → Execution → ℕ
execution_spans s j e = spans e.run.task e.run.at (length e.run.ids) s j

abbrev pub drawn_in : ℕ → ℕ → History → ℕ
drawn_in s j h =
    weigh (start_spans s j) h.starts
    + (weigh (opening_spans s j) h.begun + weigh (execution_spans s j) h.runs)

-- what was taken from boxes
abbrev pub taken : (Packet → ℕ) → History → ℕ
taken f h =
    weigh (λ (e : Execution). f (of_parcel (ToTask e.run.task e.run.tuple))) h.runs
    + (weigh (λ (x : Receipt). f (of_parcel (ToAcker x.acker x.message))) h.met
    + weigh (λ (v : Verdict). f (of_verdict v)) h.heard)

-- what was made
abbrev pub issued : Topology → Custom → (Packet → ℕ) → History → ℕ
issued t custom f h =
    weigh (λ (o : Opening). weigh_parcels f (opening_parcels t o)) h.begun
    + (weigh (λ (e : Execution). weigh_parcels f (execution_parcels t custom e)) h.runs
    + weigh (λ (x : Told). f (of_verdict x.verdict)) h.told)

-- ---- roots

-- the weight that is 1 at a root
abbrev pub opens : Root → Opening → ℕ
opens root o = if root_eq o.begun.root root then 1 else 0

-- the rows that a root was begun with, and none where it was not
abbrev pub rows_in : List Opening → Root → List (List Value)
rows_in [] root = []
rows_in (o ∷ os) root = if root_eq o.begun.root root then o.begun.rows else rows_in os root
