use Rattle.tuple_account.proofs.Sourcing.{all-sources}
use Rattle.tuple_account.proofs.stretches.sources_add_up.Goals as goal

pub returns : goal.returns
returns c = all-sources
