use Rattle.std.proofs.Common.{Some, rules}
use Rattle.event_engine.proofs.SeatLemmas.{acts_at, at-some}
use Rattle.event_engine.proofs.task.hand_over_at.Goals as goal

pub hand_over-requires : goal.hand_over-requires
hand_over-requires g c = c.requires.some c.index_mut.result.now (at-some c.args.tasks.now.items c.args.n c.index_mut.result.now c.requires.within (search rules))

pub returns : goal.returns
returns g c = λ custom.
    acts_at g.I.Ids.tells custom c.args.n (Some c.hand_over.result) c.args.tasks.now.items c.index_mut.result.now c.hand_over.new.self c.requires.within (search rules) (c.hand_over.ensures custom)
