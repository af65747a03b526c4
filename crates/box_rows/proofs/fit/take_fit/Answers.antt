use Rattle.box_rows.proofs.Changing.{none_then, some_then}
use Rattle.box_rows.proofs.Fitting.{holds-taken, same-then, take-fits, taken-then, whole-at}
use Rattle.box_rows.proofs.fit.take_fit.Goals as goal

pub returns-clause-row : goal.returns-clause-row
returns-clause-row g c = record {
  passes = c.look_at.ensures.passes;
  boxes_are = c.requires.row.boxes_are;
  fit = take-fits c.args.at c.args.row.now.items c.take_at-found.new.row.items c.look_at.new.row.items c.requires.row.fit c.look_at.ensures.same c.look_at.ensures.tells c.take_at-found.result c.take_at-found.ensures.taken c.take_at-found.ensures.same;
}

pub returns-clause-taken : goal.returns-clause-taken
returns-clause-taken g c = some_then c.take_at-found.result (λ m has. taken-then c.args.at m c.args.row.now.items c.take_at-found.new.row.items c.look_at.new.row.items has c.look_at.ensures.same) c.take_at-found.ensures.taken

pub returns-clause-holds : goal.returns-clause-holds
returns-clause-holds g c =
    let fit = take-fits c.args.at c.args.row.now.items c.take_at-found.new.row.items c.look_at.new.row.items c.requires.row.fit c.look_at.ensures.same c.look_at.ensures.tells c.take_at-found.result c.take_at-found.ensures.taken c.take_at-found.ensures.same in
    some_then c.take_at-found.result (λ m has. holds-taken c.args.at m c.args.row.now.items c.look_at.new.row.items c.requires.row.fit fit (taken-then c.args.at m c.args.row.now.items c.take_at-found.new.row.items c.look_at.new.row.items has c.look_at.ensures.same)) c.take_at-found.ensures.taken

pub returns-clause-same : goal.returns-clause-same
returns-clause-same g c = none_then c.take_at-found.result (λ is. same-then c.args.row.now.items c.take_at-found.new.row.items c.look_at.new.row.items is c.look_at.ensures.same) c.take_at-found.ensures.same

pub returns-clause-empty : goal.returns-clause-empty
returns-clause-empty g c = λ v at. c.take_at-found.ensures.whole v at (whole-at c.args.row.now.items c.args.at v c.requires.row.fit at)
