use Rattle.std.proofs.Common.{None, rules}
use Rattle.event_worlds.specs.bolt_task.Executing.{number_of, topology_at}
use Rattle.event_engine.proofs.SeatLemmas.{acts_at, acts_work, at-some}
use Rattle.event_engine.proofs.task.execute_at.Goals as goal

pub execute-requires-clause-takes : goal.execute-requires-clause-takes
execute-requires-clause-takes g c = λ lives bounds. c.requires.takes c.index_mut.result.now (at-some c.args.tasks.now.items c.args.n c.index_mut.result.now c.requires.within (search rules))

pub execute-requires-clause-empty : goal.execute-requires-clause-empty
execute-requires-clause-empty g c = λ lives bounds. c.requires.empty c.index_mut.result.now (at-some c.args.tasks.now.items c.args.n c.index_mut.result.now c.requires.within (search rules))

pub returns : goal.returns
returns g c =
    let seat = c.index_mut.result.now in
    let custom = g.O.RowOp.meaning c.args.custom.now in
    acts_at g.I.Ids.tells custom c.args.n None c.args.tasks.now.items seat c.execute.new.self c.requires.within (search rules)
    (acts_work g.I.Ids.tells (topology_at seat.task) custom (number_of seat.task) seat c.execute.new.self (c.requires.empty seat (at-some c.args.tasks.now.items c.args.n seat c.requires.within (search rules))) c.in_ok-execute.ensures)
