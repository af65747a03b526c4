use Rattle.std.proofs.Common.{arith}
use Rattle.std.proofs.lemmas.Grind.{common_steps}
use Rattle.topology_reader.proofs.Common.{components_of, map_push}
use Rattle.topology_reader.proofs.Numbered.{take_at}
use Rattle.topology_reader.proofs.names.all_names.Goals as goal

pub loop-c-preserved : goal.loop-c-preserved
loop-c-preserved c =
    let e = take_at (components_of c.args.sources.now) c.loop-c.c c.component.result.now c.component.ensures in
    grind (arith, common_steps, map_push)
