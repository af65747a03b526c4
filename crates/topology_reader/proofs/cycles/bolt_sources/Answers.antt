use Rattle.std.proofs.Common.{◌≡◌, ◌<◌, ℕ, length, false, Some, sym, ap, ◌∙◌, arith}
use Rattle.topology_reader.proofs.Common.{option_map_or, is_component, source_of, has}
use Rattle.topology_plan.specs.declared.parts.Origin.TheVariants.{Component}
use Rattle.topology_reader.proofs.ReachedSets.{sources-more, has-or, has-one, has-none}
use Rattle.topology_reader.proofs.SourceLemmas.{source_within}
use Rattle.topology_reader.proofs.cycles.bolt_sources.Goals as goal
use Rattle.topology_reader.proofs.cycles.bolt_sources.Goals.{in-Some-Component, in-Some-Spout, in-None}

pub loop-input-preserved : goal.loop-input-preserved
loop-input-preserved c =
    let p = c.args.sources.now in
    let name = c.input-item.result.from in
    let none_of : c.match-source_of.set ≡ 0 → (a : ℕ) → has c.match-source_of.set a ≡ false = λ is a. ap (λ set. has set a) is ∙ has-none a in
    let one : (a : ℕ) → has c.match-source_of.set a ≡ option_map_or (is_component a) (source_of c.args.sources.now c.input-item.result.from) false =
    elim c.match-source_of.branch [
      | in-Some-Component w ↦
          let found : source_of c.args.sources.now c.input-item.result.from ≡ Some (Component w.in-Some-Component.a) = sym c.source_of.ensures ∙ w.in-Some-Component.is ∙ ap Some w.in-Some-Component.field-0-is in
          let below : w.in-Some-Component.a < length c.args.sources.now.bolts = source_within p name w.in-Some-Component.a found in
          λ a. ap (λ set. has set a) w.set-is ∙ has-one w.in-Some-Component.a a (omega arith) ∙ ap (λ source. option_map_or (is_component a) source false) (sym found)
      | in-Some-Spout w ↦ λ a. none_of w.set-is a ∙ ap (λ source. option_map_or (is_component a) source false) (sym (sym c.source_of.ensures ∙ w.in-Some-Spout.is ∙ ap Some w.in-Some-Spout.field-0-is))
      | in-None w ↦ λ a. none_of w.set-is a ∙ ap (λ source. option_map_or (is_component a) source false) (sym (sym c.source_of.ensures ∙ w.in-None.is))
    ]
    in
    λ a. has-or c.loop-input.set c.match-source_of.set a
    ∙ rw (c.loop-input.invariant a, one a) (sym (sources-more p c.args.inputs.now c.loop-input.input-index a c.input-item.result (omega arith) c.input-item.is))
