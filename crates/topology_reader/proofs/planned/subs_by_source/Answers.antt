use Rattle.std.proofs.Common.{◌+◌, [], fold, replicate, ap, ◌∙◌, arith}
use Rattle.topology_reader.proofs.Common.{take_all, enumerate_from, items_by, with_inputs, component_count, inputs_by_component}
use Rattle.topology_reader.proofs.Numbered.{IsAt}
use Rattle.topology_reader.proofs.SourceLemmas.{length_inputs}
use Rattle.topology_reader.proofs.SubLemmas.{walk_next, subs-walked}
use Rattle.topology_reader.proofs.planned.subs_by_source.Goals as goal

pub loop-to-preserved : goal.loop-to-preserved
loop-to-preserved c =
    let p = c.args.wiring.now in
    let at : IsAt c.args.wiring.now c.loop-to.to c.component.result.now = rw c.sources-sources.ensures.value at c.component.ensures in
    walk_next p c.loop-to.to c.component.result.now (replicate (component_count p + 1) []) (items_by c.loop-to.subs.items) _ at c.loop-to.invariant
    (c.in_ok-add_inputs.ensures ∙ ap (λ is. with_inputs p (items_by c.loop-to.subs.items) (c.loop-to.to, is)) c.as_slice-inputs.ensures)

pub returns : goal.returns
returns c =
    let p = c.args.wiring.now in
    let whole = take_all c.loop-to.to (inputs_by_component p) (omega (arith, length_inputs p, c.count-count.ensures.value, ap component_count c.sources-sources.ensures.value)) in
    subs-walked p (items_by c.loop-to.subs.items) (c.loop-to.invariant ∙ ap (λ rows. fold (with_inputs p) (replicate (component_count p + 1) []) (enumerate_from 0 rows)) whole)
