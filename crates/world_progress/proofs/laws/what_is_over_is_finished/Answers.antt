use Rattle.world_progress.proofs.Finishing.{finished}
use Rattle.world_progress.proofs.laws.what_is_over_is_finished.Goals as goal

pub returns : goal.returns
returns c = λ t custom cut words h k input can last short apart over. finished t custom cut words input can h k last short apart over
