-- When no root begins.
use Rattle.std.specs.Prelude.{◌≡◌, ◌<◌, length}
use Rattle.replay_pending.specs.InFlight.{InFlight}
use Rattle.replay_pending.specs.declared.fault.BeginFault.{BeginFault}
use Rattle.replay_pending.specs.declared.fault.BeginFault.TheVariants.{AtCap, Memory}

-- as many are pending as may be, which is the number that is told; below that memory was wanting
abbrev pub IsCauseOf : {L : Type 0} → InFlight L → BeginFault → Type 0
IsCauseOf p (AtCap n) = (n ≡ p.cap) × (length p.pending ≡ p.cap)
IsCauseOf p Memory = length p.pending < p.cap
