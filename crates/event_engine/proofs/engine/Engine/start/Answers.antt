use Rattle.std.proofs.Common.{ℕ, ap, refl, subst}
use Rattle.event_worlds.specs.commit_order.Offices.{Office}
use Rattle.event_worlds.specs.commit_order.Orders.{collector_of}
use Rattle.event_engine.specs.declared.engine.Engine.{Engine}
use Rattle.event_engine.proofs.StartLemmas.{IsMade, first_source, is_ready, is_started}
use Rattle.event_worlds.specs.topology_plan.declared.parts.Origin.TheVariants as origin
use Rattle.event_worlds.specs.topology_plan.Topology.{tasks_in_all}
use Rattle.event_engine.proofs.engine.Engine.start.Goals as goal

pub returns-clause-ready : goal.returns-clause-ready
returns-clause-ready g c =
    let t = c.args.plan.now in
    let told = g.N.IdMaker.tells c.args.ids.now in
    let tells = g.I.Ids.tells in
    let e : Engine g.row.I.Denot g.I.Ids =
    record { plan = c.args.plan; tasks = c.in_ok-tasks.tasks; ackers = c.in_ok-ackers.ackers; coordinator = c.in_ok-coordinator.coordinator; verdicts = c.new-2.result; orders = c.new-3.result; tick = 0; unheard = 0; shut = 0; fates = c.new-4.result } in
    let first = c.in_ok-coordinator.ensures.first in
    let made : IsMade told tells t c.args.offers e = record {
      seats = c.in_ok-tasks.ensures.first;
      last =
          first_source told tells t origin.Spout (tasks_in_all t) c.in_ok-source.source (collector_of e.coordinator) first.collector
          (λ words is. subst (λ (n : ℕ). tells c.in_ok-source.source (words n) 0) c.tasks.ensures (c.in_ok-source.ensures.made words (c.start_tasks.ensures.kept words is)));
      ackers = c.in_ok-ackers.ensures.sides;
      desk = ap (λ (o : Office). o.desk) first.office;
      verdicts = c.new-2.ensures.items;
      orders = c.new-3.ensures.items;
      tick = refl;
      unheard = refl;
      shut = refl;
      fates = c.new-4.ensures;
    } in
    is_ready told tells t c.args.offers e c.requires made refl c.in_ok-ackers.ensures.buckets first.office c.in_ok-coordinator.ensures.own first.has_memory (c.desks_are_kept.ensures.first t c.args.offers c.requires.valid c.requires.start)

pub returns-clause-started : goal.returns-clause-started
returns-clause-started g c =
    let t = c.args.plan.now in
    let told = g.N.IdMaker.tells c.args.ids.now in
    let tells = g.I.Ids.tells in
    let e : Engine g.row.I.Denot g.I.Ids =
    record { plan = c.args.plan; tasks = c.in_ok-tasks.tasks; ackers = c.in_ok-ackers.ackers; coordinator = c.in_ok-coordinator.coordinator; verdicts = c.new-2.result; orders = c.new-3.result; tick = 0; unheard = 0; shut = 0; fates = c.new-4.result } in
    let first = c.in_ok-coordinator.ensures.first in
    let made : IsMade told tells t c.args.offers e = record {
      seats = c.in_ok-tasks.ensures.first;
      last =
          first_source told tells t origin.Spout (tasks_in_all t) c.in_ok-source.source (collector_of e.coordinator) first.collector
          (λ words is. subst (λ (n : ℕ). tells c.in_ok-source.source (words n) 0) c.tasks.ensures (c.in_ok-source.ensures.made words (c.start_tasks.ensures.kept words is)));
      ackers = c.in_ok-ackers.ensures.sides;
      desk = ap (λ (o : Office). o.desk) first.office;
      verdicts = c.new-2.ensures.items;
      orders = c.new-3.ensures.items;
      tick = refl;
      unheard = refl;
      shut = refl;
      fates = c.new-4.ensures;
    } in
    is_started told tells t c.args.offers e made

pub returns-clause-kept : goal.returns-clause-kept
returns-clause-kept g c = λ words is. c.make.ensures.kept words (c.start_tasks.ensures.kept words is)
