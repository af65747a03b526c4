use Rattle.std.proofs.Common.{◌≡◌, ◌==◌, ◌++◌, filter, slice_index}
use Rattle.std.specs.List.{range_with_len}
use Rattle.topology_graph.proofs.numbers.add_depth.Given as goal

abbrev pub invariant-loop-c : goal.invariant-loop-c
invariant-loop-c l = l.order.items ≡ l.initial.order.items ++ filter (λ c. slice_index l.depths c == l.depth) (range_with_len 0 l.c)
