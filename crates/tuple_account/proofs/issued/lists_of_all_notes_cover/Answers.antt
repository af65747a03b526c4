use Rattle.tuple_account.proofs.Sound.{covers}
use Rattle.tuple_account.proofs.issued.lists_of_all_notes_cover.Goals as goal

pub returns : goal.returns
returns c = covers
