use Rattle.std.proofs.Common.{sym, subst}
use Rattle.topology_reader.proofs.Common.{IsClosed, IsSettled}
use Rattle.topology_reader.proofs.GraphLemmas.{closed_graph, settled_graph}
use Rattle.topology_reader.proofs.wiring.Wiring.graph.Goals as goal

pub returns-clause-closed : goal.returns-clause-closed
returns-clause-closed c = subst IsClosed (sym c.self.invariant.0) (closed_graph c.self.inside.sources.now)

pub returns-clause-settled : goal.returns-clause-settled
returns-clause-settled c = subst IsSettled (sym c.self.invariant.0) (settled_graph c.self.inside.sources.now c.self.invariant.2 c.self.invariant.3)
