-- Tickets of tuples, which are issued when a root begins and when a ticket is used,
-- and an account of them.
use Rattle.std.specs.Prelude.{◌≡◌, ◌≤◌, ℕ, suc, ◌+◌, ◌&&◌, if◌then◌else◌, List, [], ◌∷◌, ◌++◌, length, Some}
use Rattle.std.specs.List.{flat_map, AllByRecursion}
use Rattle.storm_values.specs.declared.value.Root.{Root}
use Rattle.counted_items.specs.Weights.{weigh}
use Rattle.tuple_tickets.specs.declared.edge.Edge.{Edge}
use Rattle.tuple_tickets.specs.Paths.{path_eq}
use Rattle.tuple_tickets.specs.Roots.{root_eq}
use Rattle.tuple_tickets.specs.Trees.{Course, goes, fails, mute, Growth, node_at}

pub record Ticket (N : Type 0) : Type 0 where
  pub root : Root
  pub edge : Edge
  pub node : N

-- a root that was begun, with the ids of its first tickets
pub record Begun : Type 0 where
  pub root : Root
  pub ids : List ℕ

-- a ticket that was used, with the ids of the tickets that it made
pub record Run (N : Type 0) : Type 0 where
  pub ticket : Ticket N
  pub ids : List ℕ

-- The roots that were begun, the tickets that were used, and a weight of those that wait.
pub record Account (N : Type 0) : Type 0 where
  pub begun : List Begun
  pub runs : List (Run N)
  pub waiting : (Ticket N → ℕ) → ℕ

-- the weight that is 1 at a root
abbrev pub is_begun : Root → Begun → ℕ
is_begun root b = if root_eq b.root root then 1 else 0

-- the children of a node that goes on, and else none
abbrev pub made_by : {X : Type 0} → Course → List X → List X
made_by goes children = children
made_by fails children = []
made_by mute children = []

module _ {N : Type 0} where
  -- tickets of nodes, with an id for each, at the places from j on below a path
  abbrev pub tickets_from : Root → List ℕ → ℕ → List N → List ℕ → List (Ticket N)
  tickets_from root path j [] ids = []
  tickets_from root path j (n ∷ ns) [] = []
  tickets_from root path j (n ∷ ns) (id ∷ ids) =
      record { root = root; edge = record { path = path ++ j ∷ []; id = id }; node = n }
      ∷ tickets_from root path (suc j) ns ids

  -- the weight that is 1 at the tickets of a root
  abbrev pub is_of : Root → Ticket N → ℕ
  is_of root t = if root_eq t.root root then 1 else 0

  -- the weight that is 1 at the tickets of a root and a path
  abbrev pub is_at : Root → List ℕ → Ticket N → ℕ
  is_at root path t = if root_eq t.root root && path_eq t.edge.path path then 1 else 0

  -- ---- what is issued

  -- the tickets of a root's first nodes
  abbrev pub first_tickets : Growth N → Begun → List (Ticket N)
  first_tickets g b = tickets_from b.root [] 0 (g.firsts b.root) b.ids

  -- the tickets that a used one makes
  abbrev pub made_of : Growth N → Run N → List (Ticket N)
  made_of g u =
      made_by (g.course u.ticket.root u.ticket.node)
      (tickets_from u.ticket.root u.ticket.edge.path 0 (g.kids u.ticket.node) u.ids)

  -- all tickets that were issued
  abbrev pub issued : Growth N → Account N → List (Ticket N)
  issued g a = flat_map (first_tickets g) a.begun ++ flat_map (made_of g) a.runs

  -- ---- an account

  -- a root that begins has an id for each first node
  abbrev pub IsBegun : Growth N → Begun → Type 0
  IsBegun g b = length b.ids ≡ length (g.firsts b.root)

  -- a used ticket whose node goes on has an id for each child
  abbrev pub IsRun : Growth N → Run N → Type 0
  IsRun g u =
      g.course u.ticket.root u.ticket.node ≡ goes → length u.ids ≡ length (g.kids u.ticket.node)

  -- Each issued ticket was used or waits, as often as it was issued; no root is begun
  -- twice; there are enough ids.
  pub record IsAccount (g : Growth N) (a : Account N) : Type 0 where
    pub balanced : (f : Ticket N → ℕ)
        → weigh (λ (u : Run N). f u.ticket) a.runs + a.waiting f ≡ weigh f (issued g a)
    pub distinct : (root : Root) → weigh (is_begun root) a.begun ≤ 1
    pub begun_well : AllByRecursion (IsBegun g) a.begun
    pub runs_well : AllByRecursion (IsRun g) a.runs

  -- the node of a ticket is that of its path
  abbrev pub IsNode : Growth N → Ticket N → Type 0
  IsNode g t = node_at g t.root t.edge.path ≡ Some t.node
