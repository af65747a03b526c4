use Rattle.ledger_words.proofs.Words.{words_held, fails_held, inits_held}
use Rattle.ledger_words.proofs.laws.words_of_notes.Goals as goal

pub returns : goal.returns
returns c = record { words = words_held; fails = fails_held; inits = inits_held }
