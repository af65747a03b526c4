use Rattle.commit_order.specs.Orders.{StaysOwn}
use Rattle.commit_tests.proofs.scenes.check_steps.Given as goal

abbrev pub invariant-loop-step : goal.invariant-loop-step
invariant-loop-step l = StaysOwn l.coordinator
