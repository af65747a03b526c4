-- What every plan keeps. This project's own.
use Rattle.std.specs.Prelude.{◌≡◌, ◌+◌, ◌≤◌, ◌<◌, ℕ, length, All}
use Rattle.storm_values.specs.Limits.{most_fields, most_batch, most_ackers, most_pending, least_buckets, most_buckets, most_attempts, most_bolts, most_states, most_tasks_in_all, most_weight}
use Rattle.topology_plan.specs.declared.parts.Sub.{Sub}
use Rattle.topology_plan.specs.declared.parts.Origin.{Origin}
use Rattle.topology_plan.specs.declared.parts.Origin.TheVariants as origin
use Rattle.topology_plan.specs.Limits.{most_partitions}
use Rattle.topology_plan.specs.Topology.{Topology, subs_of, tasks_in_all, weight_of}

-- from the least to the most, both included
abbrev pub IsBetween : ℕ → ℕ → ℕ → Type 0
IsBetween n least most = (least ≤ n) × (n ≤ most)

-- each subscription names a component that is there
abbrev pub IsTarget : Topology → Sub → Type 0
IsTarget t sub = sub.to < length t.components

-- numbers of components that grow along each subscription
pub record IsRanked (t : Topology) : Type 0 where
  pub rank : ℕ → ℕ
  pub grows : (c : ℕ) → All (λ (sub : Sub). rank c < rank sub.to) (subs_of t (origin.Component c))

-- numbers in their ranges, subscriptions of components that are there, and no cycle
pub record IsValid (t : Topology) : Type 0 where
  pub spout_fields : IsBetween (length t.spout_fields) 1 most_fields
  pub batch : IsBetween t.batch 1 most_batch
  pub partitions : t.partitions ≤ most_partitions
  pub ackers : IsBetween t.ackers 1 most_ackers
  pub pending : IsBetween t.pending 1 most_pending
  pub buckets : IsBetween t.buckets least_buckets most_buckets
  pub attempts : IsBetween t.attempts 1 most_attempts
  pub components : IsBetween (length t.components) 1 (most_bolts + most_states)
  pub tasks : IsBetween (tasks_in_all t) 1 most_tasks_in_all
  pub sources : length t.component_subs ≡ length t.components
  pub targets : (from : Origin) → All (IsTarget t) (subs_of t from)
  pub ranked : IsRanked t
  pub weight : weight_of t ≤ most_weight
