use Rattle.tuple_tickets.specs.Lists.{occurrences}
use Rattle.tuple_tickets.proofs.Toggles.{left_of}
use Rattle.tuple_tickets.proofs.Words.{left_are_open, open_there, word_of_open, closed_empty}
use Rattle.tuple_tickets.proofs.laws.words_are_of_open_edges.Goals as goal

pub returns-clause-are_there : goal.returns-clause-are_there
returns-clause-are_there c = λ list. (left_of (occurrences list), left_are_open list)

pub returns-clause-open : goal.returns-clause-open
returns-clause-open c = open_there

pub returns-clause-word : goal.returns-clause-word
returns-clause-word c = word_of_open

pub returns-clause-closed : goal.returns-clause-closed
returns-clause-closed c = closed_empty
