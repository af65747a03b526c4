-- What lists and verdicts of a root come to, and where packets go.
use Rattle.std.specs.Prelude.{◌≡◌, ℕ, if◌then◌else◌, List, Some}
use Rattle.acker_core.specs.declared.verdict.Verdict.{Verdict}
use Rattle.acker_core.specs.declared.verdict.Verdict.TheVariants.{Complete, Fails}
use Rattle.tree_model.specs.bolt_ops.RowOp.{Custom}
use Rattle.tree_model.specs.storm_values.declared.value.Root.{Root}
use Rattle.tree_model.specs.storm_values.declared.value.Value.{Value}
use Rattle.tree_model.specs.topology_plan.Topology.{Topology}
use Rattle.tree_model.specs.tuple_tickets.Roots.{root_eq}
use Rattle.tree_model.specs.tuple_tickets.Trees.{fails}
use Rattle.tree_model.specs.declared.messages.AckMsg.{AckMsg}
use Rattle.tree_model.specs.declared.messages.Parcel.TheVariants.{ToTask, ToAcker}
use Rattle.tree_model.specs.Courses.{course_at}
use Rattle.tree_model.specs.Lists.{root_of, AreTrueOf, IsSingle, IsSteady, IsComplete}
use Rattle.tree_model.specs.Trees.{Node, node_at}
use Rattle.tuple_account.specs.Histories.{Packet, of_parcel, of_verdict, Told, IsTaskOf, acker_of}

-- a list is true of a root with these rows, single and steady
pub record IsSound (t : Topology) (custom : Custom) (rows : List (List Value)) (root : Root)
    (list : List AckMsg) : Type 0 where
  pub is_true : AreTrueOf t custom rows root list
  pub is_single : IsSingle list
  pub is_steady : IsSteady list

-- the node at a path fails at the root's attempt
abbrev pub FailsAt : Topology → Custom → List (List Value) → Root → List ℕ → Type 0
FailsAt t custom rows root path =
    (node : Node) × (node_at t custom rows path ≡ Some node)
    × (course_at t custom root.attempt node ≡ fails)

-- what a verdict has to be for the rows of its root
abbrev pub IsCaused : Topology → Custom → (Root → List (List Value)) → Verdict → Type 0
IsCaused t custom rows_of (Complete root list) =
    IsSound t custom (rows_of root) root list × IsComplete list
IsCaused t custom rows_of (Fails root path) = FailsAt t custom (rows_of root) root path

-- the weight that is 1 at the verdicts about a root
abbrev pub is_about : Root → Verdict → ℕ
is_about root (Complete r list) = if root_eq r root then 1 else 0
is_about root (Fails r path) = if root_eq r root then 1 else 0

-- the weight that is 1 at what was told of a root
abbrev pub tells : Root → Told → ℕ
tells root x = if root_eq x.root root then 1 else 0

-- a tuple goes to a task of its component, and a message to the acker of its root
abbrev pub IsRouted : Topology → Packet → Type 0
IsRouted t (of_parcel (ToTask task tuple)) = IsTaskOf t tuple.component task
IsRouted t (of_parcel (ToAcker acker m)) = acker ≡ acker_of t (root_of m)
IsRouted t (of_verdict v) = Unit {0}
