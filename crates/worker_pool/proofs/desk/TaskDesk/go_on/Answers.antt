use Rattle.std.proofs.Common.{rules, refl}
use Rattle.worker_pool.proofs.Desking.{if_gives, says_handed}
use Rattle.worker_pool.proofs.desk.TaskDesk.go_on.Goals as goal

pub returns-clause-says : goal.returns-clause-says
returns-clause-says g c =
    if_gives c.hand_over.result
    (λ did handed. says_handed did c.args.self.now (record c.args.self.now { outbox = c.hand_over.new.self }) c.args.row.now.items c.hand_over.new.row.items (search rules) refl handed)
    c.hand_over.ensures.handed
