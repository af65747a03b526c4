use Rattle.std.proofs.Common.{rules}
use Rattle.schedule_core.proofs.Resting.{goes_opened}
use Rattle.schedule_core.proofs.drive.open_round.Goals as goal

pub returns-clause-goes : goal.returns-clause-goes
returns-clause-goes g c = search (rules, goes_opened {g = g.I.Ids} g.I.Ids.tells (g.O.RowOp.meaning c.args.custom.now))
