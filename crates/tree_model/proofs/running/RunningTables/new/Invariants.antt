use Rattle.std.proofs.Common.{◌≡◌, replicate, []}
use Rattle.tree_model.specs.Inside.{pairs_by}
use Rattle.tree_model.proofs.running.RunningTables.new.Given as goal

abbrev pub invariant-loop : goal.invariant-loop
invariant-loop l = pairs_by l.values.items ≡ replicate l.counter []
