use Rattle.std.proofs.Common.{◌≡◌, ◌<◌, ℕ, length, slice_index}
use Rattle.topology_reader.proofs.Common.{has, feeds}
use Rattle.topology_reader.proofs.cycles.direct_sources.Given as goal

abbrev pub invariant-loop-c : goal.invariant-loop-c
invariant-loop-c l = record {
  counted : length l.sets.items ≡ l.c;
  held : (a b : ℕ) → b < l.c → has (slice_index l.sets.items b) a ≡ feeds l.sources a b;
}
