use Rattle.world_progress.proofs.Bounding.{bounded}
use Rattle.world_progress.proofs.laws.what_can_be_done_is_bounded.Goals as goal

pub returns : goal.returns
returns c = λ t custom cut words h k input last none_aborted.
    bounded t custom cut words (c.nodes_of_joined_rows.ensures.sum t custom) input h k last none_aborted
