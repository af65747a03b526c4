use Rattle.std.proofs.lemmas.List.Sorted.{IsPermutation-sym}
use Rattle.event_worlds.specs.topology_plan.Topology.{tasks_in_all}
use Rattle.worker_pool.specs.Ackers.{IsAcker}
use Rattle.worker_pool.specs.Desks.{IsDesk}
use Rattle.worker_stretches.specs.Hands.{items_in}
use Rattle.worker_stretches.specs.Places.{desk_number, office_number}
use Rattle.worker_stretches.proofs.Gathering.{ackers-back, numbers-full, tasks-back}
use Rattle.worker_stretches.proofs.Working.{each-permutation}
use Rattle.worker_stretches.proofs.stretch.gathered.Goals as goal

pub gather-requires : goal.gather-requires
gather-requires g c = numbers-full desk_number (items_in c.args.hands.items) (tasks_in_all c.args.plan.now) c.requires.all.tasks

pub gather-requires-2 : goal.gather-requires-2
gather-requires-2 g c = numbers-full office_number (items_in c.args.offices.items) c.args.plan.now.ackers c.requires.all.ackers

pub seats_of-requires-clause-desks : goal.seats_of-requires-clause-desks
seats_of-requires-clause-desks g c = each-permutation (IsDesk c.args.plan.now) (items_in c.args.hands.items) c.in_ok-desks.desks.items c.in_ok-desks.ensures.same c.requires.hands.desks

pub backs_of-requires-clause-desks : goal.backs_of-requires-clause-desks
backs_of-requires-clause-desks g c = each-permutation (IsAcker c.args.plan.now) (items_in c.args.offices.items) c.in_ok-places.places.items c.in_ok-places.ensures.same c.requires.hands.ackers

pub returns-clause-seats : goal.returns-clause-seats
returns-clause-seats g c = record {
  many_tasks = tasks-back c.args.plan.now c.in_ok-tasks.tasks.items c.in_ok-desks.desks.items c.args.hands.items c.in_ok-tasks.ensures.same c.in_ok-desks.ensures.same c.requires.all.tasks;
  many_ackers = ackers-back c.args.plan.now c.in_ok-ackers.ackers.items c.in_ok-places.places.items c.args.offices.items c.in_ok-ackers.ensures.same c.in_ok-places.ensures.same c.requires.all.ackers;
  seats = c.in_ok-tasks.ensures.seats;
  orderly = c.in_ok-tasks.ensures.orderly;
  buckets = c.in_ok-ackers.ensures.seats;
}

pub returns-clause-gathered : goal.returns-clause-gathered
returns-clause-gathered g c = record {
  desks = c.in_ok-desks.desks.items;
  places = c.in_ok-places.places.items;
  tasks_at = c.in_ok-tasks.ensures.same;
  ackers_at = c.in_ok-ackers.ensures.same;
  in_hands = IsPermutation-sym (items_in c.args.hands.items) c.in_ok-desks.desks.items c.in_ok-desks.ensures.same;
  in_offices = IsPermutation-sym (items_in c.args.offices.items) c.in_ok-places.places.items c.in_ok-places.ensures.same;
}
