use Rattle.record_offers.proofs.MarkLemmas.{taken_less}
use Rattle.record_offers.proofs.marks.take.Goals as goal

pub returns-clause-left : goal.returns-clause-left
returns-clause-left c = taken_less c.args.gone.now c.mark-taken.new.gone c.mark-taken.result c.mark-taken.ensures.marks.len c.mark-taken.ensures.more
