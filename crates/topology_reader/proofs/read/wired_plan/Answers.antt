use Rattle.std.proofs.Common.{◌≡◌, None, subst, ◌∙◌}
use Rattle.topology_reader.proofs.Common.{replay_fault}
use Rattle.topology_reader.proofs.AssemblyLemmas.{fault_of_size, sound-planned}
use Rattle.topology_reader.proofs.read.wired_plan.Goals as goal

pub of-requires : goal.of-requires
of-requires c =
    let p = c.args.wiring.now in
    let is = c.in_ok-made.ensures in
    let replay = subst (λ q. replay_fault q q.spout.kind ≡ None) (c.parts.ensures ∙ c.sources.ensures.value) c.in_ok-check_replays.ensures in
    let none =
    fault_of_size p c.in_ok-made.made None c.requires.once c.requires.named c.requires.acyclic c.in_ok-check_fields.ensures replay is c.in_ok-check_size.ensures
    in
    sound-planned p c.in_ok-made.made c.requires.range none is
