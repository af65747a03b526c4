use Rattle.box_rows.proofs.Changing.{err_then, ok_then}
use Rattle.box_rows.proofs.Fitting.{holds-sent, same-then, send-fits, sent-then, whole-at}
use Rattle.box_rows.proofs.fit.send_fit.Goals as goal

pub returns-clause-row : goal.returns-clause-row
returns-clause-row g c = record {
  passes = c.look_at.ensures.passes;
  boxes_are = c.requires.row.boxes_are;
  fit = send-fits c.args.at c.args.row.now.items c.send_at-done.new.row.items c.look_at.new.row.items c.requires.row.fit c.look_at.ensures.same c.look_at.ensures.tells c.send_at-done.result c.args.mail c.send_at-done.ensures.sent c.send_at-done.ensures.same;
}

pub returns-clause-sent : goal.returns-clause-sent
returns-clause-sent g c = ok_then c.send_at-done.result (λ has. sent-then c.args.at c.args.mail c.args.row.now.items c.send_at-done.new.row.items c.look_at.new.row.items has c.look_at.ensures.same) c.send_at-done.ensures.sent

pub returns-clause-holds : goal.returns-clause-holds
returns-clause-holds g c = ok_then c.send_at-done.result (λ has. holds-sent c.args.at c.args.mail c.args.row.now.items c.look_at.new.row.items c.requires.row.fit (sent-then c.args.at c.args.mail c.args.row.now.items c.send_at-done.new.row.items c.look_at.new.row.items has c.look_at.ensures.same)) c.send_at-done.ensures.sent

pub returns-clause-same : goal.returns-clause-same
returns-clause-same g c = err_then c.send_at-done.result (λ is. same-then c.args.row.now.items c.send_at-done.new.row.items c.look_at.new.row.items is c.look_at.ensures.same) c.send_at-done.ensures.same

pub returns-clause-full : goal.returns-clause-full
returns-clause-full g c = λ v at. c.send_at-done.ensures.whole v at (whole-at c.args.row.now.items c.args.at v c.requires.row.fit at)
