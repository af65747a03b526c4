use Rattle.state_cells.proofs.KnownLemmas.{knows_from}
use Rattle.state_cells.proofs.plan.find_known.Goals as goal

pub returns-in-Some-clause-knows : goal.returns-in-Some-clause-knows
returns-in-Some-clause-knows g c = knows_from g.C.CellStore.tells c.args.store.now c.args.known c.in-Some.known c.requires c.in-Some.ensures.known
