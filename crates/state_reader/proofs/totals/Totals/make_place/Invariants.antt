use Rattle.std.proofs.Common.{◌≡◌, length}
use Rattle.state_reader.specs.Kept.{AreAlike}
use Rattle.state_reader.proofs.totals.Totals.make_place.Given as goal

abbrev pub invariant-loop : goal.invariant-loop
invariant-loop l = (length l.self.states.items ≡ l.counter) × AreAlike l.fn.self l.self
