use Rattle.world_progress.proofs.Finishing.{none_aborts}
use Rattle.world_progress.proofs.laws.no_attempt_aborts_with_partitions.Goals as goal

pub returns : goal.returns
returns c = λ t custom cut words h k input can last short apart. none_aborts t custom cut words input can h k last short apart
