use Rattle.tuple_account.proofs.Working.{gathered-at}
use Rattle.tuple_account.proofs.stretches.books_tell_by_box.Goals as goal

pub returns : goal.returns
returns c = gathered-at
