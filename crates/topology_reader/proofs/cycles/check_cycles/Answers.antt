use Rattle.std.proofs.Common.{length, slice_index, [], Some, option_map, sym, ap, ◌∙◌, arith}
use Rattle.topology_reader.proofs.Common.{Cycle, ComponentPart, option_map_or, has, name_at}
use Rattle.topology_reader.proofs.ReachedSets.{cycle_fault-reached, range-past, range-here, range-end}
use Rattle.topology_reader.proofs.cycles.check_cycles.Goals as goal

pub returns-then-has : goal.returns-then-has
returns-then-has c =
    let p = c.args.sources.now in
    let sets = c.deref-set-items.result.now in
    let found = sym c.loop-c.invariant ∙ range-here (λ i. has (slice_index sets i) i) c.loop-c.c (length sets) (omega arith) (sym c.has.ensures ∙ c.if-has.true) in
    λ other.
    cycle_fault-reached p sets (rw c.deref-set-items.ensures.value c.in_ok-sets.ensures)
    ∙ ap (option_map (λ i. Cycle (name_at p i))) found
    ∙ sym (ap (λ text. Some (Cycle text)) (c.in_ok-copy.ensures ∙ sym (ap (λ there. option_map_or (λ (part : ComponentPart). part.name) there []) c.component.ensures)))

pub loop-c-preserved : goal.loop-c-preserved
loop-c-preserved c =
    let sets = c.deref-set-items.result.now in
    range-past (λ i. has (slice_index sets i) i) c.loop-c.c (length sets) (omega arith) (sym c.has.ensures ∙ c.if-has.false) ∙ c.loop-c.invariant

pub returns : goal.returns
returns c =
    let p = c.args.sources.now in
    let sets = c.deref-set-items.result.now in
    cycle_fault-reached p sets (rw c.deref-set-items.ensures.value c.in_ok-sets.ensures)
    ∙ ap (option_map (λ i. Cycle (name_at p i))) (sym c.loop-c.invariant ∙ range-end (λ i. has (slice_index sets i) i) c.loop-c.c (length sets) (omega arith))
