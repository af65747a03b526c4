-- The topology of what a plan is made of.
use Rattle.std.specs.Prelude.{◌≡◌, map, Vec}
use Rattle.std.specs.declared.alloc.Global.{Global}
use Rattle.topology_plan.specs.declared.parts.Sub.{Sub}
use Rattle.topology_plan.specs.declared.plan.Made.{Made}
use Rattle.topology_plan.specs.Topology.{Topology, tasks_in_all, depth_of, weight_of}
use Rattle.topology_plan.specs.Valid.{IsValid}
use Rattle.topology_plan.specs.Wired.{IsWired}

-- the topology that contracts see of what a plan is made of
abbrev pub topology_of : Made → Topology
topology_of made = record {
  spout_fields = made.spout_fields;
  spout_kind = made.spout_kind;
  batch = made.batch;
  partitions = made.partitions;
  components = made.components.items;
  spout_subs = made.spout_subs.items;
  component_subs = map (λ (subs : Vec Sub Global). subs.items) made.component_subs.items;
  ackers = made.ackers;
  pending = made.pending;
  buckets = made.buckets;
  attempts = made.attempts;
}

-- the topology is valid, and the numbers are its own
pub record IsSound (made : Made) : Type 0 where
  pub valid : IsValid (topology_of made)
  pub wired : IsWired (topology_of made)
  pub tasks : made.tasks ≡ tasks_in_all (topology_of made)
  pub depth : made.depth ≡ depth_of (topology_of made)
  pub weight : made.weight ≡ weight_of (topology_of made)
