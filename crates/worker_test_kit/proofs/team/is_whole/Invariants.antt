use Rattle.std.proofs.Common.{drop}
use Rattle.box_rows.specs.FitRows.{AreWhole}
use Rattle.worker_test_kit.proofs.team.is_whole.Given as goal

abbrev pub invariant-loop-pass : goal.invariant-loop-pass
invariant-loop-pass l = AreWhole (drop l.pass-index l.row.items) → AreWhole l.row.items
