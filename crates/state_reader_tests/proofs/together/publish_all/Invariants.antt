use Rattle.state_reader_tests.proofs.together.publish_all.Given as goal

abbrev pub invariant-loop-amount : goal.invariant-loop-amount
invariant-loop-amount g l = Unit {0}
