use Rattle.event_worlds.proofs.Nodes.{batch-nodes}
use Rattle.event_worlds.proofs.laws.batches_have_no_more_nodes.Goals as goal

pub returns : goal.returns
returns c = λ t custom cut spans apart. batch-nodes t custom (c.nodes_of_joined_rows.ensures.sum t custom) cut.records spans apart
