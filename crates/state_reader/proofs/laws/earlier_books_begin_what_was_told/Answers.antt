use Rattle.state_reader.proofs.Commits.{shorter_begins}
use Rattle.state_reader.proofs.Several.{begins_take}
use Rattle.state_reader.proofs.laws.earlier_books_begin_what_was_told.Goals as goal

pub returns : goal.returns
returns c earlier told book first second shorter = begins_take earlier told (shorter_begins earlier told book first second shorter)
