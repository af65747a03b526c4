use Rattle.std.proofs.Common.{◌≡◌, length}
use Rattle.output_collector.specs.Draws.{Draws}
use Rattle.output_collector.proofs.collector.start_words.Given as goal

abbrev pub invariant-loop : goal.invariant-loop
invariant-loop g l = record {
  drawn : Draws g.I.Ids.tells l.fn.ids l.words l.ids;
  counted : length l.words ≡ l.counter;
}
