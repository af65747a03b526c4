-- The file has no fault, and what its plan says.
use Rattle.std.proofs.Common.{◌≡◌, ◌∙◌, ℕ, None, IfSome, length, refl, ap, subst}
use Rattle.std.specs.Str.{chars, is_utf8}
use Rattle.serde_json.proofs.OnLiterals.{serde_json_on_literals}
use Rattle.storm_values.specs.Json.{json_of}
use Rattle.topology_form.specs.Format.{form_fault, parts_said}
use Rattle.topology_form.specs.Operations.{an_operation}
use Rattle.topology_form.specs.Reading.{required, optional}
use Rattle.topology_graph.specs.Graph.{by_depth, value_of}
use Rattle.topology_plan.specs.Topology.{Topology, depth_of, weight_of}
use Rattle.topology_reader.specs.FirstFault.{IsFilePlan, first_fault, meaning_fault}
use Rattle.topology_reader.specs.Planned.{plan_of}
use Rattle.topology_reader.specs.Wiring.{fields_of, reaches}
use Rattle.load_source.specs.File.{load_text}

pub no_fault : first_fault load_text ≡ None
unfolding serde_json_on_literals is_utf8 chars json_of form_fault parts_said an_operation required optional by_depth value_of depth_of weight_of first_fault meaning_fault plan_of fields_of reaches
no_fault = refl

-- what holds of the plan that the text says holds of each plan of the file
known : {A : Type 0} (f : Topology → A) (a : A)
    → IfSome (json_of load_text) (λ value. f (plan_of (parts_said value)) ≡ a)
    → (plan : Topology) → IsFilePlan load_text plan → f plan ≡ a
known f a said plan file =
    ap f file.3
    ∙ subst (λ o. IfSome o (λ value. f (plan_of (parts_said value)) ≡ a)) file.2 said

pub width_known : (plan : Topology) → IsFilePlan load_text plan → length plan.spout_fields ≡ 1
unfolding serde_json_on_literals is_utf8 chars json_of parts_said an_operation required optional plan_of fields_of
width_known = known (λ plan. length plan.spout_fields) 1 refl

pub batch_known : (plan : Topology) → IsFilePlan load_text plan → plan.batch ≡ 100
unfolding serde_json_on_literals is_utf8 chars json_of parts_said an_operation required optional plan_of fields_of
batch_known = known (λ plan. plan.batch) 100 refl

pub buckets_known : (plan : Topology) → IsFilePlan load_text plan → plan.buckets ≡ 3
unfolding serde_json_on_literals is_utf8 chars json_of parts_said an_operation required optional plan_of fields_of
buckets_known = known (λ plan. plan.buckets) 3 refl

pub attempts_known : (plan : Topology) → IsFilePlan load_text plan → plan.attempts ≡ 4
unfolding serde_json_on_literals is_utf8 chars json_of parts_said an_operation required optional plan_of fields_of
attempts_known = known (λ plan. plan.attempts) 4 refl
