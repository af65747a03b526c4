-- What the taken lists of boxes tell of the ends of attempts: the verdict that an end comes from,
-- the messages of its list, and the tuples that they came from. This project's own.
use Rattle.std.specs.Prelude.{◌≡◌, ℕ, List, Some}
use Rattle.std.specs.List.{AllByRecursion}
use Rattle.event_worlds.specs.acker_core.declared.verdict.Verdict.TheVariants.{Complete, Fails}
use Rattle.event_worlds.specs.attempt_fates.declared.fates.Attempt.{Attempt}
use Rattle.event_worlds.specs.attempt_fates.declared.fates.End.{End}
use Rattle.event_worlds.specs.attempt_fates.declared.fates.End.TheVariants as end
use Rattle.event_worlds.specs.bolt_ops.RowOp.{Custom}
use Rattle.box_account.specs.Taken.{WasHeard, WasTaken, all_packets}
use Rattle.box_rows.specs.declared.mail.Mail.{Mail}
use Rattle.event_worlds.specs.commit_turns.Account.{rows_at}
use Rattle.event_worlds.specs.counted_items.Weights.{weigh}
use Rattle.event_worlds.specs.storm_values.declared.value.Root.{Root}
use Rattle.event_worlds.specs.storm_values.declared.value.Value.{Value}
use Rattle.task_queues.specs.declared.pass.Pass.{Pass}
use Rattle.event_worlds.specs.topology_plan.Topology.{Topology}
use Rattle.event_worlds.specs.tree_model.declared.messages.AckMsg.{AckMsg}
use Rattle.event_worlds.specs.tree_model.declared.messages.AckMsg.TheVariants as msg
use Rattle.event_worlds.specs.tree_model.declared.messages.Parcel.TheVariants.{ToTask, ToAcker}
use Rattle.event_worlds.specs.tree_model.declared.messages.Tuple.{Tuple}
use Rattle.event_worlds.specs.tree_model.Trees.{node_at}
use Rattle.event_worlds.specs.taken_records.Cuts.{Cut}
use Rattle.event_worlds.specs.tuple_account.Accounts.{is_at}
use Rattle.event_worlds.specs.tuple_account.Histories.{IsTaskOf, acker_of, on_tuple}
use Rattle.event_worlds.specs.tuple_account.Issued.{node_of}

-- Of all tuples in taken lists exactly one has this root and this path. It has the node of the path
-- in the tree of these rows, and stands in the box of a task of its component.
pub record TookOnce (t : Topology) (custom : Custom) (row : List (Pass Mail))
    (rows : List (List Value)) (root : Root) (path : List ℕ) : Type 0 where
  pub tuple : Tuple
  pub task : ℕ
  pub of_root : tuple.root ≡ root
  pub of_path : tuple.edge.path ≡ path
  pub node : node_at t custom rows path ≡ Some (node_of tuple)
  pub belongs : IsTaskOf t tuple.component task
  pub taken : WasTaken t row (ToTask task tuple)
  pub once : weigh (on_tuple (is_at root path)) (all_packets row) ≡ 1

module _ (t : Topology) (custom : Custom) (row : List (Pass Mail)) (rows : List (List Value))
    (root : Root) where
  -- the tuple that a done or a failure is about was taken once; a done has its edge
  abbrev pub TookTuple : AckMsg → Type 0
  TookTuple (msg.Init m) = Unit {0}
  TookTuple (msg.Done m) =
      (took : TookOnce t custom row rows root m.consumed.path) × (took.tuple.edge ≡ m.consumed)
  TookTuple (msg.Failed m) = TookOnce t custom row rows root m.path

  -- a message about the root was taken from the box of the root's acker, and so was its tuple
  abbrev pub TellsMessage : AckMsg → Type 0
  TellsMessage m = WasTaken t row (ToAcker (acker_of t root) m) × TookTuple m

  -- a verdict that the root is complete was heard, and each message of its list was taken
  pub record TellsComplete (list : List AckMsg) : Type 0 where
    pub verdict : WasHeard t row (Complete root list)
    pub messages : AllByRecursion TellsMessage list

  -- a verdict that the root fails at a path was heard, and the failure was taken
  pub record TellsFails (path : List ℕ) : Type 0 where
    pub verdict : WasHeard t row (Fails root path)
    pub message : TellsMessage (msg.Failed (record { root = root; path = path }))

  -- what taken lists tell of an end; of one by time, or with another attempt, they tell nothing
  abbrev pub TellsEnd : End → Type 0
  TellsEnd (end.Committed list) = TellsComplete list
  TellsEnd (end.Failed path) = TellsFails path
  TellsEnd end.TimedOut = Unit {0}
  TellsEnd (end.Coincided list) = TellsComplete list
  TellsEnd (end.CommitFailed component part before after) =
      (list : List AckMsg) × TellsComplete list
  TellsEnd (end.Dropped by) = Unit {0}

-- taken lists tell so of each attempt, with its records
abbrev pub BoxesTell : Topology → Custom → Cut → List (Pass Mail) → List Attempt → Type 0
BoxesTell t custom cut row fates =
    AllByRecursion
    (λ (a : Attempt). TellsEnd t custom row (rows_at cut a.spans) a.root a.end) fates
