use Rattle.resume_meta.proofs.TextsRead.{metas_same}
use Rattle.resume_meta.proofs.laws.metas_have_texts_of_their_own.Goals as goal

pub returns : goal.returns
returns c = metas_same
