use Rattle.std.proofs.Common.{◌∙◌}
use Rattle.worker_pool.proofs.Desking.{desk_fits}
use Rattle.worker_pool.proofs.desk.TaskDesk.execute.Goals as goal

pub add_all-requires-clause-fit : goal.add_all-requires-clause-fit
add_all-requires-clause-fit g c =
    (desk_fits g.I.Ids.tells c.args.posts.now.plan.now (g.O.RowOp.meaning c.args.custom.now) c.args.self.now c.execute.new.self c.args.tuple c.in_ok-parcels.parcels c.requires.desk
    c.in_ok-parcels.ensures.executed c.facts.ensures.valid c.facts.ensures.wired (g.O.RowOp.keeps c.args.custom.now) c.requires.for_it).0

pub returns-clause-desk : goal.returns-clause-desk
returns-clause-desk g c =
    let d = c.requires.desk in
    let same = c.execute.ensures.same_task in
    let fit = desk_fits g.I.Ids.tells c.args.posts.now.plan.now (g.O.RowOp.meaning c.args.custom.now) c.args.self.now c.execute.new.self c.args.tuple c.in_ok-parcels.parcels c.requires.desk
    c.in_ok-parcels.ensures.executed c.facts.ensures.valid c.facts.ensures.wired (g.O.RowOp.keeps c.args.custom.now) c.requires.for_it in record {
      topology = same.topology ∙ d.topology;
      number = same.number ∙ d.number;
      component = same.component ∙ d.component;
      there = d.there;
      inbox = d.inbox;
      outbox = c.in_ok-add_all.ensures.outbox;
      stand = fit.1;
    }
