-- The steps by which a list's path order is made. No public clause cites this module.
use Rattle.std.specs.Prelude.{◌≡◌, ℕ, Option, None, Some, slice_get, List, [], ◌∷◌, ◌++◌, flat_map}
use Rattle.std.specs.Borrow.{Bor}
use Rattle.std.specs.declared.cmp.Ordering.TheVariants.{Less}
use Rattle.tree_model.specs.counted_items.Weights.{Same}
use Rattle.tree_model.specs.storm_values.Order.{path_cmp}
use Rattle.tree_model.specs.tuple_tickets.declared.edge.Edge.{Edge}
use Rattle.tree_model.specs.declared.messages.AckMsg.{AckMsg}
use Rattle.tree_model.specs.declared.messages.AckMsg.TheVariants as msg
use Rattle.tree_model.specs.declared.messages.Done.{Done}
use Rattle.tree_model.specs.declared.messages.Init.{Init}
use Rattle.message_lists.specs.Packed.{children_from}
use Rattle.acker_core.specs.declared.follow.LentEdge.{LentEdge}
use Rattle.acker_core.specs.declared.follow.LentEdge.TheVariants as lent
use Rattle.acker_core.specs.declared.follow.LentPath.{LentPath}
use Rattle.acker_core.specs.declared.follow.Open.{Open}
use Rattle.acker_core.specs.declared.follow.OpenEdges.{OpenEdges}
use Rattle.acker_core.specs.declared.follow.OpenEdges.TheVariants as open_edges

-- a done stands at a place of a list
abbrev pub StandsAt : List AckMsg → ℕ → Done → Type 0
StandsAt list k d = slice_get list k ≡ Some (msg.Done d)

-- ---- dones beside their places

abbrev pub place_of : ℕ × Bor Done → ℕ
place_of d = d.0

abbrev pub done_beside : ℕ × Bor Done → Done
done_beside d = d.1.now

abbrev pub StandsIn : List AckMsg → ℕ × Bor Done → Type 0
StandsIn list d = StandsAt list (place_of d) (done_beside d)

-- ---- a walk

-- an init of a list has these edges
pub record HasInit (list : List AckMsg) (edges : List Edge) : Type 0 where
  pub place : ℕ
  pub init : Init
  pub there : slice_get list place ≡ Some (msg.Init init)
  pub are : edges ≡ init.edges

-- a path whose numbers lie in two pieces
abbrev pub path_of : LentPath → List ℕ
path_of p = p.before.now ++ p.last ∷ []

-- the path of the last done, and the empty one before the first
abbrev pub last_path : Option LentPath → List ℕ
last_path None = []
last_path (Some p) = path_of p

abbrev pub edge_of : LentEdge → Edge
edge_of (lent.Whole e) = e.now
edge_of (lent.Below path number id) = record { path = path_of path ++ number ∷ []; id = id }

abbrev pub edges_by : OpenEdges → List Edge
edges_by (open_edges.Whole edges) = edges.now
edges_by (open_edges.Below path first ids) = children_from (path_of path) first ids.now

abbrev pub edges_in : Open → List Edge
edges_in open_ones = edges_by open_ones.edges

-- the edges that are open
abbrev pub all_open : List Open → List Edge
all_open all = flat_map edges_in all

-- The order grows by the place of a done whose path is above the last one. The edge that it consumes
-- is no longer open, and those that it produced are.
pub record FollowsOn (list : List AckMsg) (order longer : List ℕ) (last path : List ℕ)
    (before after : List Edge) : Type 0 where
  pub place : ℕ
  pub done : Done
  pub there : StandsAt list place done
  pub added : longer ≡ order ++ place ∷ []
  pub above : path_cmp last done.consumed.path ≡ Less
  pub is_last : path ≡ done.consumed.path
  pub moved : Same (before ++ done.produced) (done.consumed ∷ after)
