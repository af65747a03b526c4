use Rattle.std.proofs.Common.{◌≡◌, ℕ, take}
use Rattle.topology_reader.proofs.Common.{list_any, has, sources_among, is_component}
use Rattle.topology_reader.proofs.cycles.bolt_sources.Given as goal

abbrev pub invariant-loop-input : goal.invariant-loop-input
invariant-loop-input l = (a : ℕ) → has l.set a ≡ list_any (is_component a) (sources_among l.sources (take l.input-index l.inputs))
