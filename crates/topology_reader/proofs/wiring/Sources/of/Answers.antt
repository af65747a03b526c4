use Rattle.std.proofs.Common.{arith}
use Rattle.topology_reader.proofs.IndexLemmas.{holds_before, index_whole}
use Rattle.topology_reader.proofs.wiring.Sources.of.Goals as goal

pub loop-i-preserved : goal.loop-i-preserved
loop-i-preserved c = holds_before c.args.parts.now.bolts _ c.at.result.now c.loop-i.by_name c.insert.new.self c.as_str-name.result c.loop-i.i (omega arith) c.at.ensures c.as_str-name.ensures c.loop-i.invariant c.in_ok-insert.ensures.updates.0

pub invariant_of-result : goal.invariant_of-result
invariant_of-result c = (c.requires, index_whole c.args.parts.now c.loop-i.by_name c.insert-2.new.self c.as_str.result c.as_str.ensures c.loop-i.i (omega arith) c.loop-i.invariant c.in_ok-insert-2.ensures.updates.0)
