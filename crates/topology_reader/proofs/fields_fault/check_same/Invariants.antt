use Rattle.std.proofs.Common.{◌≡◌, not, drop}
use Rattle.topology_reader.proofs.Common.{list_any, pointwise, bytes_eq, Feed, fields_of, fields_to, feeds_at, graph_of}
use Rattle.topology_reader.proofs.fields_fault.check_same.Given as goal

abbrev pub invariant-loop-feed : goal.invariant-loop-feed
invariant-loop-feed l =
    list_any (λ (feed : Feed). not (pointwise bytes_eq (fields_of l.wiring feed.from) (fields_to l.wiring l.c))) (drop l.feed-index l.feed-items)
    ≡ list_any (λ (feed : Feed). not (pointwise bytes_eq (fields_of l.wiring feed.from) (fields_to l.wiring l.c))) (feeds_at (graph_of l.wiring) l.c)
