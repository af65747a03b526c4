use Rattle.topology_reader.proofs.Common.{err_from_is_err_and, components_of, nameless_fault}
use Rattle.topology_reader.proofs.FileFaults.{next_passed, next_told}
use Rattle.topology_reader.proofs.names.check_sources.Goals as goal

pub returns-in_err-check_named : goal.returns-in_err-check_named
returns-in_err-check_named c =
    let made = err_from_is_err_and c.from_residual.result c.from_residual.ensures.1 in
    rw (made.1, made.2) (λ other. next_told (nameless_fault c.args.sources.now) (components_of c.args.sources.now) c.loop-c.c c.component.result.now _ _ c.component.ensures (c.in_err-check_named.ensures other) c.loop-c.invariant)

pub loop-c-preserved : goal.loop-c-preserved
loop-c-preserved c = next_passed (nameless_fault c.args.sources.now) (components_of c.args.sources.now) c.loop-c.c c.component.result.now _ c.component.ensures c.in_ok-check_named.ensures c.loop-c.invariant
