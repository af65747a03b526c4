-- An account of tuples: what was issued was executed or waits.
use Rattle.std.specs.Prelude.{◌≡◌, ◌≤◌, ℕ, ◌+◌, ◌&&◌, if◌then◌else◌, List, [], ◌∷◌, ◌++◌, length, map, Some}
use Rattle.std.specs.List.{flat_map, AllByRecursion}
use Rattle.tree_model.specs.bolt_ops.RowOp.{Custom}
use Rattle.tree_model.specs.counted_items.Weights.{weigh}
use Rattle.tree_model.specs.storm_values.declared.value.Root.{Root}
use Rattle.tree_model.specs.storm_values.declared.value.Value.{Value}
use Rattle.tree_model.specs.topology_plan.declared.parts.Origin.TheVariants as origin
use Rattle.tree_model.specs.topology_plan.Topology.{Topology}
use Rattle.tree_model.specs.tuple_tickets.Paths.{path_eq}
use Rattle.tree_model.specs.tuple_tickets.Roots.{root_eq}
use Rattle.tree_model.specs.tuple_tickets.Trees.{goes}
use Rattle.tree_model.specs.declared.messages.AckMsg.{AckMsg}
use Rattle.tree_model.specs.declared.messages.Tuple.{Tuple}
use Rattle.tree_model.specs.Lists.{root_of}
use Rattle.tree_model.specs.Trees.{kids, kids_of, node_at}
use Rattle.tuple_account.specs.Issued.{Begun, Run, node_of, first_tuples, init_of, course_of_run, children_of, notes_of}

-- The roots that were begun, the tuples that were executed, and a weight of those that wait.
pub record Account : Type 0 where
  pub begun : List Begun
  pub runs : List Run
  pub waiting : (Tuple → ℕ) → ℕ

-- the weight that is 1 at a root
abbrev pub is_begun : Root → Begun → ℕ
is_begun root b = if root_eq b.root root then 1 else 0

-- the weight that is 1 at the tuples of a root
abbrev pub is_of : Root → Tuple → ℕ
is_of root tuple = if root_eq tuple.root root then 1 else 0

-- the weight that is 1 at the tuples of a root and a path
abbrev pub is_at : Root → List ℕ → Tuple → ℕ
is_at root path tuple = if root_eq tuple.root root && path_eq tuple.edge.path path then 1 else 0

-- the notes of a root
abbrev pub notes_about : Root → List AckMsg → List AckMsg
notes_about root [] = []
notes_about root (m ∷ notes) =
    if root_eq (root_of m) root then m ∷ notes_about root notes else notes_about root notes

module _ (t : Topology) (custom : Custom) where
  -- all tuples that were issued
  abbrev pub issued : Account → List Tuple
  issued a = flat_map (first_tuples t) a.begun ++ flat_map (children_of t custom) a.runs

  -- all notes that were issued
  abbrev pub issued_notes : Account → List AckMsg
  issued_notes a = map (init_of t) a.begun ++ flat_map (notes_of t custom) a.runs

  -- a root begins with its rows, and has an id for each first node
  pub record IsBegun (rows_of : Root → List (List Value)) (b : Begun) : Type 0 where
    pub rows : b.rows ≡ rows_of b.root
    pub ids : length b.ids ≡ length (kids t origin.Spout b.rows)

  -- a tuple whose node goes on has an id for each child
  abbrev pub IsRun : Run → Type 0
  IsRun u =
      course_of_run t custom u ≡ goes → length u.ids ≡ length (kids_of t custom (node_of u.tuple))

  -- Each issued tuple was executed or waits, as often as it was issued; no root is begun
  -- twice; there are enough ids.
  pub record IsAccount (rows_of : Root → List (List Value)) (a : Account) : Type 0 where
    pub balanced : (f : Tuple → ℕ)
        → weigh (λ (u : Run). f u.tuple) a.runs + a.waiting f ≡ weigh f (issued a)
    pub distinct : (root : Root) → weigh (is_begun root) a.begun ≤ 1
    pub begun_well : AllByRecursion (IsBegun rows_of) a.begun
    pub runs_well : AllByRecursion IsRun a.runs

  -- the node of a tuple is that of its path
  abbrev pub IsNode : (Root → List (List Value)) → Tuple → Type 0
  IsNode rows_of tuple =
      node_at t custom (rows_of tuple.root) tuple.edge.path ≡ Some (node_of tuple)
