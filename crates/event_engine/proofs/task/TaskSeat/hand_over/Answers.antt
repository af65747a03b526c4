use Rattle.std.proofs.Common.{rules, refl}
use Rattle.event_worlds.specs.bolt_task.Executing.{number_of, topology_at}
use Rattle.event_engine.proofs.SeatLemmas.{acts_front}
use Rattle.event_engine.proofs.task.TaskSeat.hand_over.Goals as goal

pub returns : goal.returns
returns g c = λ custom.
    let old = c.args.self.now in
    acts_front g.I.Ids.tells (topology_at old.task) custom (number_of old.task) c.unwrap.result old (record old { outbox = c.pop_front.new.self })
    (search rules) refl refl
