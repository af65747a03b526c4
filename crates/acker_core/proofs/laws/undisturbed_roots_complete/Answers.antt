use Rattle.std.proofs.Common.{◌≡◌, ◌↔◌, ℕ, Some, List, [], ◌∷◌, ◌++◌, refl, sym, ap, ◌∙◌}
use Rattle.tree_model.specs.bolt_ops.RowOp.{Custom}
use Rattle.tree_model.specs.storm_values.declared.value.Value.{Value}
use Rattle.tree_model.specs.topology_plan.Topology.{Topology}
use Rattle.tree_model.proofs.Reading.{growth, all_true_said}
use Rattle.tree_model.proofs.tuple_tickets.Words.{complete_covers, none_coincide}
use Rattle.tree_model.specs.declared.messages.AckMsg.{AckMsg}
use Rattle.tree_model.specs.Lists.{root_of, all_said, AreTrueOf, IsSingle, IsSteady, Coincides, Covers}
use Rattle.acker_core.proofs.TellLemmas.{complete-told}
use Rattle.acker_core.proofs.Traces.{list_since}
use Rattle.acker_core.specs.Entries.{Met, entries_of, tell, told_of}
use Rattle.acker_core.specs.Traces.{messages_of, IsUndisturbed}
use Rattle.acker_core.specs.declared.verdict.Verdict.TheVariants.{Complete}
use Rattle.acker_core.proofs.laws.undisturbed_roots_complete.Goals as goal

abbrev list_of : List Met → AckMsg → List AckMsg
list_of trace m = messages_of (root_of m) trace ++ m ∷ []

completes : (t : Topology) (custom : Custom) (rows : List (List Value)) (buckets : ℕ) (trace : List Met) (m : AckMsg) → IsUndisturbed buckets (root_of m) [] trace
    → AreTrueOf t custom rows (root_of m) (list_of trace m) → IsSingle (list_of trace m) → IsSteady (list_of trace m) → (Coincides (list_of trace m) → ⊥)
    → (told_of m (entries_of buckets trace) ≡ Some (Complete (root_of m) (list_of trace m))) ↔ Covers t custom rows (list_of trace m)
completes t custom rows buckets trace m calm all_true single steady none =
    let covers = complete_covers (growth t custom rows) (root_of m) (all_said (list_of trace m)) (all_true_said t custom rows (root_of m) (list_of trace m) all_true) single steady none in
    let told = complete-told (root_of m) (list_of trace m) in
    let of_told : told_of m (entries_of buckets trace) ≡ tell (root_of m) (list_of trace m) = ap (tell (root_of m)) (list_since buckets [] trace m refl calm) in (
      (λ complete. covers.0 (told.0 (sym of_told ∙ complete))),
      (λ covered. of_told ∙ told.1 (covers.1 covered)),
    )

pub returns : goal.returns
returns c = record {
  list = λ buckets trace m calm. list_since buckets [] trace m refl calm;
  list_since = list_since;
  completes = λ t custom rows buckets trace m calm all_true single steady none. completes t custom rows buckets trace m calm all_true single steady (none_coincide (all_said (list_of trace m)) none);
  unless_all_coincide = completes;
}
