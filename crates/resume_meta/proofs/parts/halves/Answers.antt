use Rattle.resume_meta.proofs.SpansRead.{rest_found}
use Rattle.resume_meta.proofs.parts.halves.Goals as goal

pub returns-in-Some-clause-rest : goal.returns-in-Some-clause-rest
returns-in-Some-clause-rest c = rest_found c.args.byte c.in-Some.at c.args.text.now c.in-Some.ensures
