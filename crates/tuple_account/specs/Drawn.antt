-- Lists whose ids are drawn: words of sources, each in one message only.
use Rattle.std.specs.Prelude.{◌≡◌, ◌≤◌, ◌+◌, ℕ, ◌==◌, if◌then◌else◌, List, length, Some}
use Rattle.std.specs.List.{AllByRecursion}
use Rattle.tree_model.specs.bolt_ops.RowOp.{Custom}
use Rattle.tree_model.specs.counted_items.Weights.{weigh}
use Rattle.tree_model.specs.storm_values.declared.value.Root.{Root}
use Rattle.tree_model.specs.storm_values.declared.value.Value.{Value}
use Rattle.tree_model.specs.topology_plan.Topology.{Topology, tasks_in_all}
use Rattle.tree_model.specs.declared.messages.AckMsg.{AckMsg}
use Rattle.tree_model.specs.declared.messages.AckMsg.TheVariants as msg
use Rattle.tree_model.specs.declared.messages.Draw.{Draw}
use Rattle.tree_model.specs.Trees.{Node, node_at}
use Rattle.tuple_account.specs.Histories.{Start, History, IsTaskOf}
use Rattle.tuple_account.specs.Places.{HasWords, ids_of, covers}

-- so many words of the draw end at a limit at most
abbrev pub EndsBy : ℕ → Draw → ℕ → Type 0
EndsBy limit draw count = 1 ≤ count → draw.first + count ≤ limit

module _ (t : Topology) (custom : Custom) (rows_of : Root → List (List Value))
    (words : ℕ → ℕ → ℕ) where
  -- The ids of an init's and of a done's edges are the words that the draw names. The source is
  -- the coordinator's for an init, and else a task of the component of the consumed node.
  abbrev pub IsDrawn : AckMsg → Type 0
  IsDrawn (msg.Init m) =
      HasWords words m.draw.source m.draw.first (ids_of m.edges)
      × (m.draw.source ≡ tasks_in_all t)
  IsDrawn (msg.Done m) =
      HasWords words m.draw.source m.draw.first (ids_of m.produced)
      × ((node : Node) → node_at t custom (rows_of m.root) m.consumed.path ≡ Some node
      → IsTaskOf t node.component m.draw.source)
  IsDrawn (msg.Failed m) = Unit {0}

-- the places of a message's words are below the limit
abbrev pub IsBelow : ℕ → AckMsg → Type 0
IsBelow limit (msg.Init m) = EndsBy limit m.draw (length m.edges)
IsBelow limit (msg.Done m) = EndsBy limit m.draw (length m.produced)
IsBelow limit (msg.Failed m) = Unit {0}

-- Each message of the list is drawn, no word is in two of them, and all are below the limit.
pub record AreDrawn (t : Topology) (custom : Custom) (rows_of : Root → List (List Value))
    (words : ℕ → ℕ → ℕ) (limit : ℕ) (list : List AckMsg) : Type 0 where
  pub drawn : AllByRecursion (IsDrawn t custom rows_of words) list
  pub once : (s j : ℕ) → weigh (covers s j) list ≤ 1
  pub below : AllByRecursion (IsBelow limit) list

-- how many words a source gave for the starts of its shuffles
abbrev pub started : ℕ → History → ℕ
started s h = weigh (λ (x : Start). if s == x.source then x.count else 0) h.starts
