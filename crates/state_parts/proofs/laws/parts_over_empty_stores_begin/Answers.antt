use Rattle.state_parts.proofs.StandingLemmas.{all_begin}
use Rattle.state_parts.proofs.laws.parts_over_empty_stores_begin.Goals as goal

pub returns : goal.returns
returns g c = λ t custom next parts empty. all_begin g.C.CellStore.tells t custom next parts empty
