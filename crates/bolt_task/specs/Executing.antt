-- What a task makes of a tuple. This project's own.
use Rattle.std.specs.Prelude.{◌≡◌, ℕ, List, [], ◌∷◌, ◌++◌, Option, length}
use Rattle.tuple_account.specs.acker_core.declared.verdict.Verdict.{Verdict}
use Rattle.tuple_account.specs.acker_core.Entries.{met, told_of}
use Rattle.tuple_account.specs.bolt_ops.declared.operation.Outcome.{Outcome}
use Rattle.tuple_account.specs.bolt_ops.declared.operation.Outcome.TheVariants.{Rows, Fail, Mute}
use Rattle.tuple_account.specs.bolt_ops.RowOp.{Custom}
use Rattle.storm_ids.specs.declared.ids.Ids.{Ghosts}
use Rattle.tuple_account.specs.rotating_ledger.Held.{Rotation}
use Rattle.tuple_account.specs.storm_values.declared.value.Value.{Value}
use Rattle.tuple_account.specs.storm_values.Rows.{IsRow}
use Rattle.tuple_account.specs.topology_plan.Topology.{Topology}
use Rattle.tuple_account.specs.topology_plan.Wired.{width_to}
use Rattle.tuple_account.specs.tree_model.declared.messages.AckMsg.{AckMsg}
use Rattle.tuple_account.specs.tree_model.declared.messages.AckMsg.TheVariants.{Done}
use Rattle.tuple_account.specs.tree_model.declared.messages.Parcel.{Parcel}
use Rattle.tuple_account.specs.tree_model.declared.messages.Tuple.{Tuple}
use Rattle.tuple_account.specs.tree_model.declared.write.Write.{Write}
use Rattle.tuple_account.specs.tree_model.Lists.{root_of}
use Rattle.tuple_account.specs.tree_model.Trees.{exec_at, kids}
use Rattle.tuple_account.specs.Issued.{draw_from, edges_of, node_of}
use Rattle.tuple_account.specs.Histories.{Execution, IsExecution, execution_parcels, to_acker}
use Rattle.output_collector.specs.declared.collector.Collector.{Collector}
use Rattle.output_collector.specs.Collectors.{outlet_of, ids_in, given_by}
use Rattle.output_collector.specs.Draws.{Draws, given_after}
use Rattle.output_collector.specs.Outlets.{Outlet, after_rows, parcels_for, tasks_for, tuples_for}
use Rattle.bolt_task.specs.declared.task.AtOnce.{AtOnce}
use Rattle.bolt_task.specs.declared.task.AtOnce.TheVariants.{No, Met}
use Rattle.bolt_task.specs.declared.task.BoltTask.{BoltTask}

-- the rows that an attempt answers
abbrev pub answered : Outcome → List (List Value)
answered (Rows rows) = rows
answered Fail = []
answered Mute = []

-- the rows that a tuple's execution answers
abbrev pub rows_of : Topology → Custom → Tuple → List (List Value)
rows_of t custom tuple = answered (exec_at t custom tuple.root.attempt (node_of tuple))

-- An acker is told that a tuple is done, right behind the tuples that were made of its rows.
abbrev pub parcels_done : Outlet → ℕ → ℕ → Tuple → List (List Value) → List Write → List ℕ
    → List Parcel
parcels_done o task at tuple rows writes ids =
    parcels_for o tuple.root tuple.edge.path rows ids
    ++ to_acker o.topology (Done (record {
      root = tuple.root;
      consumed = tuple.edge;
      produced = edges_of (tuples_for o tuple.root tuple.edge.path rows ids);
      draw = draw_from task at;
      writes = writes;
    })) ∷ []

module _ {I : Type 0} {g : Ghosts I} where
  abbrev pub topology_at : BoltTask I g → Topology
  topology_at b = b.plan.now

  -- the component that the task belongs to
  abbrev pub component_at : BoltTask I g → ℕ
  component_at b = b.component

  abbrev pub number_of : BoltTask I g → ℕ
  number_of b = b.task

  -- what emits its rows
  abbrev pub collector_in : BoltTask I g → Collector I
  collector_in b = b.collector

  -- both are one task of one topology
  pub record IsSameTask (a b : BoltTask I g) : Type 0 where
    pub topology : topology_at a ≡ topology_at b
    pub component : component_at a ≡ component_at b
    pub number : number_of a ≡ number_of b

  -- a tuple comes to the task's component, with a row that the component takes
  pub record IsFor (b : BoltTask I g) (tuple : Tuple) : Type 0 where
    pub to : tuple.component ≡ component_at b
    pub row : IsRow (width_to (topology_at b) (component_at b)) tuple.row

  -- the execution of a tuple at a task, where these ids are drawn
  abbrev pub execution_at : Custom → BoltTask I g → Tuple → List ℕ → Execution
  execution_at custom b tuple ids = record {
    run = record {
      tuple = tuple;
      ids = ids;
      task = number_of b;
      at = given_by (collector_in b);
    };
    targets = tasks_for (outlet_of (collector_in b)).lanes (rows_of (topology_at b) custom tuple);
  }

  -- A tuple was executed: the parcels are exactly an execution's, with ids that were drawn for it
  -- alone, and the collector has gone on by its rows.
  pub record Executes (tells : I → (ℕ → ℕ) → ℕ → Type 0) (custom : Custom) (tuple : Tuple)
      (old new : BoltTask I g) (parcels : List Parcel) : Type 0 where
    pub ids : List ℕ
    pub sent : parcels
        ≡ execution_parcels (topology_at old) custom (execution_at custom old tuple ids)
    pub well : IsExecution (topology_at old) custom (execution_at custom old tuple ids)
    pub drawn : Draws tells (ids_in (collector_in old)) ids (ids_in (collector_in new))
    pub given : given_by (collector_in new) ≡ given_after (given_by (collector_in old)) (length ids)
    pub outlet : outlet_of (collector_in new)
        ≡ after_rows (rows_of (topology_at old) custom tuple) (outlet_of (collector_in old))

-- a tuple was executed, and its acker met the one message that it was told, and tells this
pub record MeetsAtOnce {I : Type 0} {g : Ghosts I} (tuple : Tuple) (old new : BoltTask I g)
    (before after : Rotation (List AckMsg)) (told : Option Verdict) : Type 0 where
  pub message : AckMsg
  pub of_root : root_of message ≡ tuple.root
  pub sent : (custom : Custom) → to_acker (topology_at old) message ∷ []
      ≡ execution_parcels (topology_at old) custom (execution_at custom old tuple [])
  pub well : (custom : Custom)
      → IsExecution (topology_at old) custom (execution_at custom old tuple [])
  pub makes_none : (custom : Custom) → rows_of (topology_at old) custom tuple ≡ []
  pub same_collector : collector_in new ≡ collector_in old
  pub same_count : given_after (given_by (collector_in old)) 0 ≡ given_by (collector_in old)
  pub tells_it : told ≡ told_of message before.held
  pub meets : after ≡ record before { held = met message before.held }

-- what comes of a tuple whose acker may meet at once what it is told: that of its execution, or
-- nothing was done
abbrev pub WritesAtOnce : {I : Type 0} {g : Ghosts I} → Tuple → BoltTask I g → BoltTask I g
    → Rotation (List AckMsg) → Rotation (List AckMsg) → AtOnce → Type 0
WritesAtOnce tuple old new before after No = (new ≡ old) × (after ≡ before)
WritesAtOnce tuple old new before after (Met told) = MeetsAtOnce tuple old new before after told

-- rows were emitted, and the acker was told
pub record GoesOn {I : Type 0} (tells : I → (ℕ → ℕ) → ℕ → Type 0) (tuple : Tuple)
    (rows : List (List Value)) (writes : List Write) (task : ℕ) (old new : Collector I)
    (parcels : List Parcel) : Type 0 where
  pub ids : List ℕ
  pub enough : length ids ≡ length (kids (outlet_of old).topology (outlet_of old).from rows)
  pub sent : parcels
      ≡ parcels_done (outlet_of old) task (given_by old) tuple rows writes ids
  pub drawn : Draws tells (ids_in old) ids (ids_in new)
  pub given : given_by new ≡ given_after (given_by old) (length ids)
  pub outlet : outlet_of new ≡ after_rows rows (outlet_of old)
