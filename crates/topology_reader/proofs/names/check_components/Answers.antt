use Rattle.topology_reader.proofs.Common.{err_from_is_err_and, components_of, component_twice}
use Rattle.topology_reader.proofs.FileFaults.{next_passed, next_told}
use Rattle.topology_reader.proofs.names.check_components.Goals as goal

pub returns-in_err-check_component : goal.returns-in_err-check_component
returns-in_err-check_component c =
    let made = err_from_is_err_and c.from_residual.result c.from_residual.ensures.1 in
    rw (made.1, made.2) (λ other. next_told component_twice (components_of c.args.sources.now) c.loop-c.c c.component.result.now _ _ c.component.ensures (c.in_err-check_component.ensures other) c.loop-c.invariant)

pub loop-c-preserved : goal.loop-c-preserved
loop-c-preserved c = next_passed component_twice (components_of c.args.sources.now) c.loop-c.c c.component.result.now _ c.component.ensures c.in_ok-check_component.ensures c.loop-c.invariant
