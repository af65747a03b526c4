use Rattle.std.proofs.Common.{◌≡◌, ◌++◌, map, take}
use Rattle.state_reader.specs.declared.change.Change.TheVariants.{Write as Written}
use Rattle.state_reader.specs.Calls.{pending}
use Rattle.state_reader.proofs.calls.append_all.Given as goal

abbrev pub invariant-loop-place : goal.invariant-loop-place
invariant-loop-place l =
    (l.writer.desk ≡ l.initial.writer.desk) × (pending l.writer ≡ pending l.initial.writer ++ map Written (take l.place l.commit))
