use Rattle.std.proofs.Common.{◌≡◌, ◌∷◌, ℕ, List, map, take}
use Rattle.topology_reader.proofs.Common.{Bor, components_of, ComponentPart}
use Rattle.topology_reader.proofs.names.all_names.Given as goal

abbrev pub invariant-loop-c : goal.invariant-loop-c
invariant-loop-c l =
    map (λ (name : Bor (List ℕ)). name.now) l.names.items ≡ l.sources.spout.name ∷ map (λ (part : ComponentPart). part.name) (take l.c (components_of l.sources))
