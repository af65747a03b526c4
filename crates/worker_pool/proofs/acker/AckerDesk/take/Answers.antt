use Rattle.std.proofs.Common.{rules}
use Rattle.worker_pool.proofs.Acking.{acker_rests, notes_mail, says_none_there, says_notes_mail}
use Rattle.worker_pool.proofs.acker.AckerDesk.take.Goals as goal

pub returns-in_ok-receive-in-Some-clause-did : goal.returns-in_ok-receive-in-Some-clause-did
returns-in_ok-receive-in-Some-clause-did g c =
    notes_mail c.args.posts.now.plan.now c.in-Some.mail c.run_in.result c.args.self.now c.receive.new.self c.args.row.now.items c.take_at.new.row.items
    c.run_in.ensures c.in-Some.ensures.taken c.in_ok-receive-in-Some.ensures.receives

pub returns-in_ok-receive-in-Some-clause-says : goal.returns-in_ok-receive-in-Some-clause-says
returns-in_ok-receive-in-Some-clause-says g c =
    says_notes_mail c.args.posts.now.plan.now c.in-Some.mail c.run_in.result c.args.self.now c.receive.new.self c.args.row.now.items c.take_at.new.row.items
    c.run_in.ensures c.in-Some.ensures.is_true c.in-Some.ensures.taken c.in_ok-receive-in-Some.ensures.receives

pub returns-in-None-clause-did : goal.returns-in-None-clause-did
returns-in-None-clause-did g c =
    acker_rests c.args.posts.now.plan.now c.args.self.now c.args.row.now.items c.take_at.new.row.items c.in-None.ensures.same

pub returns-in-None-clause-says : goal.returns-in-None-clause-says
returns-in-None-clause-says g c =
    says_none_there c.args.posts.now.plan.now c.args.self.now c.args.row.now.items c.take_at.new.row.items c.requires.no_message c.requires.no_verdict (search rules) c.in-None.ensures.same c.in-None.ensures.empty
