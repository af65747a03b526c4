-- The calls and the notes that stand for messages of a window's records. This project's own.
use Rattle.std.specs.Prelude.{◌≡◌, ◌≤◌, ◌<◌, ℕ, ◌-◌, List, [], ◌∷◌, ◌++◌, set, length, slice_index_or}
use Rattle.shared_ledger.specs.declared.rule.Call.{Call}
use Rattle.ledger_words.specs.Notes.{call_at}
use Rattle.tree_model.specs.counted_items.Weights.{weigh}
use Rattle.tree_model.specs.storm_values.Rows.{IsRow}
use Rattle.tree_model.specs.storm_values.declared.value.Root.{Root}
use Rattle.tree_model.specs.topology_plan.Topology.{Topology}
use Rattle.tree_model.specs.topology_plan.Wired.{width_to}
use Rattle.tree_model.specs.declared.messages.AckMsg.{AckMsg}
use Rattle.tree_model.specs.declared.messages.Tuple.{Tuple}
use Rattle.tree_model.specs.Lists.{root_of}
use Rattle.tree_model.specs.Trees.{Node}
use Rattle.tracked_trees.specs.Tries.{tallied}
use Rattle.tuple_account.specs.Issued.{node_of}

-- the place of a root's record
abbrev pub number_of : Root → ℕ
number_of root = root.txid - 1

-- the root is one of so many at an attempt
pub record IsAmong (count attempt : ℕ) (root : Root) : Type 0 where
  pub least : 1 ≤ root.txid
  pub most : root.txid ≤ count
  pub attempt_is : root.attempt ≡ attempt

-- the call that stands for a message
abbrev pub call_of : AckMsg → Call
call_of m = call_at (number_of (root_of m)) m

-- a message behind the others of its record
abbrev pub noted : List (List AckMsg) → AckMsg → List (List AckMsg)
noted lists m =
    set lists (number_of (root_of m))
    (slice_index_or lists (number_of (root_of m)) [] ++ m ∷ [])

-- how many of the tuples are of a state and key
abbrev pub tallied_in : Topology → ℕ → List ℕ → List Tuple → ℕ
tallied_in t state key tuples = weigh (λ (tuple : Tuple). tallied t state key (node_of tuple)) tuples

-- the node's component is there, and takes its row
abbrev pub IsFitNode : Topology → Node → Type 0
IsFitNode t node =
    (node.component < length t.components) × IsRow (width_to t node.component) node.row

abbrev pub IsFit : Topology → Tuple → Type 0
IsFit t tuple = IsFitNode t (node_of tuple)
