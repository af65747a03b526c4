use Rattle.std.proofs.Common.{◌≡◌, [], replicate}
use Rattle.track_window.proofs.walk.no_notes.Given as goal

abbrev pub invariant-loop : goal.invariant-loop
invariant-loop l = l.notes.items ≡ replicate l.counter []
