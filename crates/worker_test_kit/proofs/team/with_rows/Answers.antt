use Rattle.std.proofs.Common.{rules, ◌≡◌, ◌++◌, ◌∷◌, [], subst}
use Rattle.std.specs.List.{AllByRecursion}
use Rattle.worker_test_kit.specs.Resting.{Rests}
use Rattle.worker_test_kit.proofs.Coming.{parts}
use Rattle.worker_test_kit.proofs.team.with_rows.Goals as goal

pub with_row-requires-clause-rests : goal.with_row-requires-clause-rests
with_row-requires-clause-rests c =
    let is : c.loop-worker.resting.items ≡ c.pop.new.self.items ++ c.in-Some.worker ∷ [] = search rules in
    (parts (Rests c.args.posts.now.plan.now c.args.board.now) c.pop.new.self.items c.in-Some.worker
    (subst (AllByRecursion (Rests c.args.posts.now.plan.now c.args.board.now)) is c.loop-worker.invariant.rest)).1
