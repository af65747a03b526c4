use Rattle.std.proofs.Common.{◌+◌, sym, ap, ◌∙◌, arith}
use Rattle.topology_reader.proofs.Common.{components_of, component_count, planned_component}
use Rattle.topology_reader.proofs.Numbered.{IsAt}
use Rattle.topology_reader.proofs.AssemblyLemmas.{all_planned}
use Rattle.topology_reader.proofs.TaskLemmas.{numbered_next, next_task, first_task-le}
use Rattle.topology_reader.proofs.planned.planned_components.Goals as goal

pub overflow_add-first_task : goal.overflow_add-first_task
overflow_add-first_task c =
    let p = c.args.wiring.now in
    let at : IsAt c.args.wiring.now c.loop-c.c c.component-part.result.now = rw c.sources-sources.ensures.value at c.component-part.ensures in
    omega (arith, next_task p c.loop-c.c c.component-part.result.now at, first_task-le p (c.loop-c.c + 1) c.sources-sources.ensures.range, c.loop-c.invariant.first_task)

pub loop-c-preserved : goal.loop-c-preserved
loop-c-preserved c =
    let p = c.args.wiring.now in
    let part = c.component-part.result.now in
    let at : IsAt c.args.wiring.now c.loop-c.c c.component-part.result.now = rw c.sources-sources.ensures.value at c.component-part.ensures in
    record {
      added = numbered_next (planned_component p) (components_of p) c.loop-c.c part _ _ _ at c.in_ok-push.ensures.items c.loop-c.invariant.added c.in_ok-planned_component.ensures;
      first_task = ap (λ n. n + part.tasks) c.loop-c.invariant.first_task ∙ sym (next_task p c.loop-c.c part at);
    }

pub returns : goal.returns
returns c = all_planned c.args.wiring.now c.loop-c.c c.loop-c.components.items c.loop-c.first_task (omega (arith, c.count-count.ensures.value, ap component_count c.sources-sources.ensures.value)) c.loop-c.invariant.added c.loop-c.invariant.first_task
