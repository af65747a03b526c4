-- What a call of `emit` has sent so far. This project's own.
use Rattle.std.specs.Prelude.{◌≡◌, ◌≤◌, ℕ, ◌+◌, ◌-◌, ◌^◌, List, ◌++◌, length, map}
use Rattle.tuple_account.specs.storm_values.declared.value.Root.{Root}
use Rattle.tuple_account.specs.storm_values.declared.value.Value.{Value}
use Rattle.tuple_account.specs.storm_values.Limits.{most_tasks_in_all}
use Rattle.tuple_account.specs.topology_plan.declared.parts.Sub.{Sub}
use Rattle.groupings.specs.declared.lane.Lane.{Lane}
use Rattle.groupings.specs.declared.lane.Targets.{Targets}
use Rattle.groupings.specs.declared.lane.Targets.TheVariants.{One, All}
use Rattle.groupings.specs.Routing.{targets}
use Rattle.tuple_account.specs.tuple_tickets.declared.edge.Edge.{Edge}
use Rattle.tuple_account.specs.tree_model.declared.messages.Parcel.{Parcel}
use Rattle.tuple_account.specs.tree_model.Trees.{Node}
use Rattle.tuple_account.specs.Issued.{tuples_from, edges_of}
use Rattle.tuple_account.specs.Histories.{to_tasks}
use Rattle.output_collector.specs.declared.collector.Collector.{Collector}
use Rattle.output_collector.specs.declared.outlet.Route.{Route}
use Rattle.output_collector.specs.Draws.{Draws, given_after}

-- where a row goes along the lane of a subscription
abbrev pub route_along : Sub → Lane → List Value → Route
route_along sub lane row = record { component = sub.to; targets = targets lane row }

-- copies go to one task at least, and tasks have the numbers of a plan's
abbrev pub AreFew : Targets → Type 0
AreFew (One task) = Unit {0}
AreFew (All first count) = (1 ≤ count) × (first + count ≤ most_tasks_in_all)

-- a node of a row for each task of a component
abbrev pub nodes_at : ℕ → List Value → List ℕ → List Node
nodes_at component row tasks = map (λ task. record { component = component; row = row }) tasks

-- a list begins with another
abbrev pub BeginsWith : {X : Type 0} → List X → List X → Type 0
BeginsWith {X} list first = (rest : List X) × (list ≡ first ++ rest)

-- where ids come from, how many words were given, and the edges and parcels so far
pub record Sent (I : Type 0) : Type 0 where
  pub ids : I
  pub given : ℕ
  pub edges : List Edge
  pub parcels : List Parcel

abbrev pub sent : {I : Type 0} → Collector I → List Edge → List Parcel → Sent I
sent c edges parcels =
    record { ids = c.ids; given = c.given; edges = edges; parcels = parcels }

-- Tuples of these nodes go to these tasks: each has the id drawn next, and the number of the edges
-- before it ends its path.
pub record Sends {I : Type 0} (tells : I → (ℕ → ℕ) → ℕ → Type 0) (root : Root) (path : List ℕ)
    (nodes : List Node) (tasks : List ℕ) (a b : Sent I) : Type 0 where
  pub ids : List ℕ
  pub enough : length ids ≡ length nodes
  pub edges : b.edges
      ≡ a.edges ++ edges_of (tuples_from root path (length a.edges) nodes ids)
  pub parcels : b.parcels
      ≡ a.parcels ++ to_tasks (tuples_from root path (length a.edges) nodes ids) tasks
  pub drawn : Draws tells a.ids ids b.ids
  pub given : a.given ≤ 2 ^ 64 - 1 → b.given ≡ given_after a.given (length ids)
