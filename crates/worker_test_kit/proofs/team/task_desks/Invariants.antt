use Rattle.std.specs.List.{AllByRecursion}
use Rattle.worker_pool.specs.Desks.{IsDesk}
use Rattle.worker_test_kit.proofs.team.task_desks.Given as goal

abbrev pub invariant-loop-n : goal.invariant-loop-n
invariant-loop-n l = AllByRecursion (IsDesk l.plan) l.desks.items
