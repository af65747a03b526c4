use Rattle.std.proofs.Common.{take}
use Rattle.state_parts.specs.Dealt.{AreDealt}
use Rattle.state_parts.proofs.split.split.Given as goal

abbrev pub invariant-loop-at : goal.invariant-loop-at
invariant-loop-at g l = AreDealt (take l.at l.writes) l.parts l.dealt.items
