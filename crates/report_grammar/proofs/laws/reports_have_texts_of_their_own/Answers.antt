use Rattle.report_grammar.proofs.Gathering.{reports_one}
use Rattle.report_grammar.proofs.laws.reports_have_texts_of_their_own.Goals as goal

pub returns : goal.returns
returns c = reports_one
