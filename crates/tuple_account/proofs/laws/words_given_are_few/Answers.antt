use Rattle.tuple_account.proofs.Counting.{few_words}
use Rattle.tuple_account.proofs.laws.words_given_are_few.Goals as goal

pub returns : goal.returns
returns c = few_words
