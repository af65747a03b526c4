use Rattle.std.proofs.Common.{◌≡◌, ℕ, List, [], map, drop}
use Rattle.topology_reader.proofs.Common.{Bor, first_again}
use Rattle.topology_reader.proofs.NameLists.{again_in}
use Rattle.topology_reader.proofs.names.first_again.Given as goal

abbrev pub invariant-loop-item : goal.invariant-loop-item
invariant-loop-item g l = again_in (map (λ (name : Bor (List ℕ)). name.now) l.seen.keys) (map g.N.Named.name_of (drop l.item-index l.items)) ≡ first_again [] (map g.N.Named.name_of l.items)
