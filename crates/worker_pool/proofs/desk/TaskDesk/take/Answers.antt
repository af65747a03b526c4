use Rattle.worker_pool.proofs.Desking.{says_mail}
use Rattle.worker_pool.proofs.desk.TaskDesk.take.Goals as goal

pub returns-in_ok-receive-in-Some-clause-says : goal.returns-in_ok-receive-in-Some-clause-says
returns-in_ok-receive-in-Some-clause-says g c =
    says_mail c.args.posts.now.plan.now c.in-Some.mail c.run_in.result c.args.self.now c.receive.new.self c.args.row.now.items c.take_at.new.row.items
    c.run_in.ensures c.in-Some.ensures.is_true c.in-Some.ensures.taken c.in_ok-receive-in-Some.ensures.receives
