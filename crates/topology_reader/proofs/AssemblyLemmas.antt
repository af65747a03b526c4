-- A plan put together from its parts.
use Rattle.std.proofs.Common.{◌≡◌, ℕ, ◌≤◌, List, map, take, sum_by, None, refl, sym, ap, subst, ◌∙◌, Option}
use Rattle.topology_reader.proofs.Common.{FileParts, TopoFault, IsValid, IsInRange, Topology, tasks_in_all, Sub, Kind, IsWired, IsMade, meaning_fault, size_fault, twice_fault, source_fault, cycle_fault, fields_fault, replay_fault, take_all, enumerate_from, ComponentPart, components_of, component_count, planned_component, first_task_of, plan_of}
use Rattle.topology_plan.specs.Topology.{depth_of, weight_of}
use Rattle.topology_plan.specs.declared.parts.Component.{Component}
use Rattle.topology_plan.specs.declared.plan.Made.{Made}
use Rattle.topology_plan.specs.Inside.{IsSound}
use Rattle.topology_reader.proofs.ValidPlan.{valid_plan}
use Rattle.topology_reader.proofs.WiredPlan.{wired_plan}
use Rattle.topology_reader.proofs.FileFaults.{next_alone}
use Rattle.topology_reader.proofs.ValidFile.{sum_of_tasks}

-- ---- components and their tasks

-- all components as planned, and the tasks in all
pub all_planned : (p : FileParts) (c : ℕ) (components : List Component) (tasks : ℕ) → component_count p ≤ c → components ≡ map (planned_component p) (enumerate_from 0 (take c (components_of p))) → tasks ≡ first_task_of p c
    → (components ≡ (plan_of p).components) × (tasks ≡ tasks_in_all (plan_of p))
unfolding plan_of
all_planned p c components tasks past made counted =
    let whole = take_all c (components_of p) past in (
      made ∙ ap (λ parts. map (planned_component p) (enumerate_from 0 parts)) whole,
      counted ∙ ap (sum_by (λ (part : ComponentPart). part.tasks)) whole ∙ sum_of_tasks p,
    )

-- ---- the plan

-- where no other comes before it the fault is that of the size
pub fault_of_size : (p : FileParts) (made : Made) (found : Option TopoFault) → twice_fault p ≡ None → source_fault p ≡ None → cycle_fault p ≡ None → fields_fault p ≡ None → replay_fault p p.spout.kind ≡ None
    → IsMade p made → size_fault made.tasks made.weight ≡ found → meaning_fault p ≡ found
unfolding meaning_fault
fault_of_size p made found twice sources cycle fields replay is sized =
    rw (twice, sources, cycle, fields, replay, ← is.tasks, ← is.weight, sized) (next_alone found)

-- the topology of these parts
abbrev topology_with : List (List ℕ) → Kind → ℕ → ℕ → List Component → List Sub → List (List Sub) → ℕ → ℕ → ℕ → ℕ → Topology
topology_with fields kind batch partitions components spout_subs component_subs ackers pending buckets attempts = record {
  spout_fields = fields;
  spout_kind = kind;
  batch = batch;
  partitions = partitions;
  components = components;
  spout_subs = spout_subs;
  component_subs = component_subs;
  ackers = ackers;
  pending = pending;
  buckets = buckets;
  attempts = attempts;
}

pub topology-planned : (p : FileParts) (fields : List (List ℕ)) (kind : Kind) (batch partitions : ℕ) (components : List Component)
    → (from_spout : List Sub) (from_components : List (List Sub)) (ackers pending buckets attempts : ℕ)
    → fields ≡ p.spout.fields → kind ≡ p.spout.kind → batch ≡ p.spout.batch → partitions ≡ p.spout.partitions
    → components ≡ (plan_of p).components → from_spout ≡ (plan_of p).spout_subs → from_components ≡ (plan_of p).component_subs
    → ackers ≡ p.ackers → pending ≡ p.pending → buckets ≡ p.buckets → attempts ≡ p.attempts
    → topology_with fields kind batch partitions components from_spout from_components ackers pending buckets attempts ≡ plan_of p
unfolding plan_of
topology-planned p fields kind batch partitions components from_spout from_components ackers pending buckets attempts a b c d e f g h i j k =
    rw (a, b, c, d, e, f, g, h, i, j, k) refl

-- the plan of parts without a fault is sound
pub sound-planned : (p : FileParts) (made : Made) → IsInRange p → meaning_fault p ≡ None → IsMade p made → IsSound made
sound-planned p made range none is = record {
  valid = subst IsValid (sym is.topology) (valid_plan p range none);
  wired = subst IsWired (sym is.topology) (wired_plan p range none);
  tasks = is.tasks ∙ ap tasks_in_all (sym is.topology);
  depth = is.depth ∙ ap depth_of (sym is.topology);
  weight = is.weight ∙ ap weight_of (sym is.topology);
}
