-- Lists of messages about one root: what they say of its tree, and of the ids of its edges.
use Rattle.std.specs.Prelude.{◌≡◌, ◌≢◌, ◌≤◌, ℕ, ◌%◌, List, [], ◌∷◌, length, map, Option, Some}
use Rattle.std.specs.List.{flat_map, AllByRecursion}
use Rattle.storm_values.specs.declared.value.Root.{Root}
use Rattle.counted_items.specs.Weights.{weigh}
use Rattle.tuple_tickets.specs.declared.edge.Edge.{Edge}
use Rattle.tuple_tickets.specs.Edges.{times, xor_ids}
use Rattle.tuple_tickets.specs.Paths.{is_path, paths_below}
use Rattle.tuple_tickets.specs.Trees.{Growth, node_at, goes, fails}

-- What a message says: the edges of the root's first tuples; that the tuple of an edge was executed
-- and made these edges; or that the one at a path failed.
pub data Message : Type 0 where
  init : (edges : List Edge) → Message
  done : (consumed : Edge) (produced : List Edge) → Message
  failed : (path : List ℕ) → Message

-- ---- edges

abbrev pub occurrences_in : Message → List Edge
occurrences_in (init edges) = edges
occurrences_in (done consumed produced) = consumed ∷ produced
occurrences_in (failed path) = []

-- the edges of each init, and the consumed and the produced edges of each done
abbrev pub occurrences : List Message → List Edge
occurrences list = flat_map occurrences_in list

-- the edge occurs an odd number of times
abbrev pub IsOpen : List Message → Edge → Type 0
IsOpen list e = times e (occurrences list) % 2 ≡ 1

-- no edge occurs an odd number of times
abbrev pub IsClosed : List Message → Type 0
IsClosed list = (e : Edge) → times e (occurrences list) % 2 ≡ 0

-- these are the open edges, each once, in any order
abbrev pub AreOpen : List Message → List Edge → Type 0
AreOpen list edges = (e : Edge) → times e edges ≡ times e (occurrences list) % 2

-- the XOR of the ids of all occurrences
abbrev pub word : List Message → ℕ
word list = xor_ids (occurrences list)

-- ---- messages

-- the weight that is 1 at an init
abbrev pub is_init : Message → ℕ
is_init (init edges) = 1
is_init (done consumed produced) = 0
is_init (failed path) = 0

-- the weight that is 1 at a failure
abbrev pub is_failed : Message → ℕ
is_failed (init edges) = 0
is_failed (done consumed produced) = 0
is_failed (failed path) = 1

-- the weight that is 1 at a done that consumes the path
abbrev pub consumes : List ℕ → Message → ℕ
consumes path (init edges) = 0
consumes path (done consumed produced) = is_path path consumed.path
consumes path (failed p) = 0

abbrev pub paths_of : List Edge → List (List ℕ)
paths_of edges = map (λ (e : Edge). e.path) edges

module _ {N : Type 0} where
  -- A message is true of a root's tree: an init has exactly the paths of one number, each once and
  -- in order; a done consumes a node that goes on and produces exactly its children, in order; a
  -- failure names a node that fails.
  abbrev pub IsTrueOf : Growth N → Root → Message → Type 0
  IsTrueOf g root (init edges) = paths_of edges ≡ paths_below [] 0 (length (g.firsts root))
  IsTrueOf g root (done consumed produced) =
      (node : N) × (node_at g root consumed.path ≡ Some node) × (g.course root node ≡ goes)
      × (paths_of produced ≡ paths_below consumed.path 0 (length (g.kids node)))
  IsTrueOf g root (failed path) =
      (node : N) × (node_at g root path ≡ Some node) × (g.course root node ≡ fails)

  -- each message is true
  abbrev pub AreTrueOf : Growth N → Root → List Message → Type 0
  AreTrueOf g root list = AllByRecursion (IsTrueOf g root) list

  -- there is an init, and each path of a tree, given by the node at each path, is consumed
  pub record CoversTree (tree : List ℕ → Option N) (list : List Message) : Type 0 where
    pub begins : 1 ≤ weigh is_init list
    pub consumed : (path : List ℕ) (node : N) → tree path ≡ Some node
        → 1 ≤ weigh (consumes path) list

  -- the list covers a root's tree
  abbrev pub Covers : Growth N → Root → List Message → Type 0
  Covers g root list = CoversTree (node_at g root) list

-- there is at most one init, and no path is consumed twice
pub record IsSingle (list : List Message) : Type 0 where
  pub begins : weigh is_init list ≤ 1
  pub consumed : (path : List ℕ) → weigh (consumes path) list ≤ 1

-- all occurrences of one path have one id
abbrev pub IsSteady : List Message → Type 0
IsSteady list =
    AllByRecursion
    (λ (a : Edge).
    AllByRecursion (λ (b : Edge). a.path ≡ b.path → a.id ≡ b.id) (occurrences list))
    (occurrences list)

-- ---- words of 0

-- the list would be told as complete: it has an init, no failure and the word 0
pub record IsComplete (list : List Message) : Type 0 where
  pub begins : 1 ≤ weigh is_init list
  pub none_failed : weigh is_failed list ≡ 0
  pub zero_word : word list ≡ 0

-- a coincidence: there is an init, and there are open edges, whose ids XOR to 0
pub record Coincides (list : List Message) : Type 0 where
  pub begins : 1 ≤ weigh is_init list
  pub edges : List Edge
  pub are_open : AreOpen list edges
  pub are_some : edges ≢ []
  pub cancel : xor_ids edges ≡ 0

-- no set of open edges but the empty one has ids that XOR to 0
abbrev pub NoneCancel : List Message → Type 0
NoneCancel list =
    (edges : List Edge) → ((e : Edge) → times e edges ≤ times e (occurrences list) % 2) → edges ≢ []
    → xor_ids edges ≢ 0
