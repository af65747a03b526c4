use Rattle.std.proofs.Common.{ℕ, ◌+◌, [], ◌∷◌, length, slice_index, ap, ◌∙◌, length-append}
use Rattle.topology_reader.proofs.Common.{has, is_component, list_any, sources_among}
use Rattle.topology_reader.proofs.ReachedSets.{sets_pushed}
use Rattle.topology_reader.proofs.cycles.direct_sources.Goals as goal

pub loop-c-preserved : goal.loop-c-preserved
loop-c-preserved c =
    let p = c.args.sources.now in
    let sets = c.loop-c.sets.items in
    let set = c.bolt_sources.result in
    let is = λ (a : ℕ). c.bolt_sources.ensures a ∙ ap (λ inputs. list_any (is_component a) (sources_among p inputs)) c.as_slice-inputs.ensures in
    record {
      counted = ap length c.in_ok-push.ensures.items ∙ length-append sets (set ∷ []) ∙ ap (λ n. n + 1) c.loop-c.invariant.counted;
      held = λ a b below. ap (λ xs. has (slice_index xs b) a) c.in_ok-push.ensures.items ∙ sets_pushed p sets set c.loop-c.c c.component.result.now c.component.ensures c.loop-c.invariant.counted c.loop-c.invariant.held is a b below;
    }
