use Rattle.std.specs.List.{AllByRecursion}
use Rattle.worker_pool.specs.Ackers.{IsAcker}
use Rattle.worker_test_kit.proofs.team.acker_desks.Given as goal

abbrev pub invariant-loop-n : goal.invariant-loop-n
invariant-loop-n l = AllByRecursion (IsAcker l.plan) l.desks.items
