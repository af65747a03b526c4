-- Trees of nodes, given by how they grow.
use Rattle.std.specs.Prelude.{ℕ, List, [], ◌∷◌, Option, None, Some, slice_get, option_and_then}
use Rattle.storm_values.specs.declared.value.Root.{Root}

-- what comes of a node when it is executed: its children and a done note, a
-- failure, or nothing at all
pub data Course : Type 0 where
  goes : Course
  fails : Course
  mute : Course

-- How trees grow: the first nodes of a root, the children of a node, and what comes of
-- a node in a root's tree.
pub record Growth (N : Type 0) : Type 0 where
  pub firsts : Root → List N
  pub kids : N → List N
  pub course : Root → N → Course

module _ {N : Type 0} where
  -- The descendant of a node at a path, where each node has these children: itself at the empty
  -- path, and else each number picks a child.
  abbrev pub descendant : (N → List N) → N → List ℕ → Option N
  descendant kids node [] = Some node
  descendant kids node (i ∷ path) =
      option_and_then (λ kid. descendant kids kid path) (slice_get (kids node) i)

  -- the node at a path in the forest of some first nodes, which has none at the empty path
  abbrev pub node_in : (N → List N) → List N → List ℕ → Option N
  node_in kids firsts [] = None
  node_in kids firsts (i ∷ path) =
      option_and_then (λ node. descendant kids node path) (slice_get firsts i)

  -- the node at a path in a root's tree
  abbrev pub node_at : Growth N → Root → List ℕ → Option N
  node_at g root = node_in g.kids (g.firsts root)
