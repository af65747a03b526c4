-- Words of small lists, worked out by hand.
use Rattle.std.proofs.Common.{◌≡◌, ℕ, List, [], ◌∷◌, refl}
use Rattle.tuple_tickets.specs.declared.edge.Edge.{Edge}
use Rattle.tuple_tickets.specs.Edges.{times}
use Rattle.tuple_tickets.specs.Lists.{Message, init, done, failed, occurrences, word}
use Rattle.tuple_tickets.specs.Paths.{paths_below}

abbrev edge : List ℕ → ℕ → Edge
edge path id = record { path = path; id = id }

-- a tuple of edge 5 makes two, of edges 3 and 6, and these make none
abbrev begins : Message
begins = init (edge (0 ∷ []) 5 ∷ [])

abbrev first : Message
first = done (edge (0 ∷ []) 5) (edge (0 ∷ 0 ∷ []) 3 ∷ edge (0 ∷ 1 ∷ []) 6 ∷ [])

abbrev second : Message
second = done (edge (0 ∷ 0 ∷ []) 3) []

abbrev third : Message
third = done (edge (0 ∷ 1 ∷ []) 6) []

begun : word (begins ∷ []) ≡ 5
begun = refl

grown : word (begins ∷ first ∷ []) ≡ 5
grown = refl

half_done : word (begins ∷ first ∷ second ∷ []) ≡ 6
half_done = refl

all_done : word (begins ∷ first ∷ second ∷ third ∷ []) ≡ 0
all_done = refl

-- the same in another order: nothing is told before the init
not_begun : word (first ∷ []) ≡ 0
not_begun = refl

still_not_begun : word (first ∷ second ∷ []) ≡ 3
still_not_begun = refl

late_init : word (first ∷ second ∷ third ∷ []) ≡ 5
late_init = refl

-- the edge of the first tuple is made once and consumed once
twice : times (edge (0 ∷ []) 5) (occurrences (begins ∷ first ∷ failed (0 ∷ []) ∷ [])) ≡ 2
twice = refl

-- the ids 3, 5 and 6 cancel, though their edges are open
cancels : word (init (edge (0 ∷ []) 3 ∷ edge (1 ∷ []) 5 ∷ edge (2 ∷ []) 6 ∷ []) ∷ []) ≡ 0
cancels = refl

places : paths_below (4 ∷ []) 0 2 ≡ (4 ∷ 0 ∷ []) ∷ (4 ∷ 1 ∷ []) ∷ []
places = refl
