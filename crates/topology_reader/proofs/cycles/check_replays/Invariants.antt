use Rattle.std.proofs.Common.{◌≡◌, drop}
use Rattle.std.specs.List.{find}
use Rattle.topology_reader.proofs.Common.{ComponentPart, keeps_exact}
use Rattle.topology_reader.proofs.cycles.check_replays.Given as goal

abbrev pub invariant-loop-state : goal.invariant-loop-state
invariant-loop-state l =
    find (λ (part : ComponentPart). keeps_exact part.body) (drop l.state-index l.state-items) ≡ find (λ (part : ComponentPart). keeps_exact part.body) l.parts.states
