use Rattle.std.proofs.Common.{◌≡◌, ◌++◌, take, string_bytes}
use Rattle.track_report.specs.Lines.{state_lines}
use Rattle.track_report.proofs.text.push_state.Given as goal

abbrev pub invariant-loop-counted : goal.invariant-loop-counted
invariant-loop-counted l =
    string_bytes l.text ≡ string_bytes l.fn.text ++ state_lines l.state (take l.counted-index l.counts)
