-- The edges that occur an odd number of times, in order.
use Rattle.std.specs.Prelude.{◌≡◌, ◌++◌, ◌-◌, ◌%◌, Bool, false, if◌then◌else◌, length, take, Option, None, Some, slice_get, List, [], ◌∷◌}
use Rattle.std.specs.List.{AllByRecursion}
use Rattle.std.specs.List.Sorted.{IsStrictlySortedBy}
use Rattle.std.specs.Ordering.{is_eq, is_gt}
use Rattle.tree_model.specs.tuple_tickets.declared.edge.Edge.{Edge}
use Rattle.tree_model.specs.tuple_tickets.Edges.{edge_cmp, times}

-- exactly the edges that occur an odd number of times, each once, in order
pub record AreLeft (all left : List Edge) : Type 0 where
  pub odd : (e : Edge) → times e left ≡ times e all % 2
  pub ordered : IsStrictlySortedBy edge_cmp left

-- none is above one after it
abbrev pub AreInOrder : List Edge → Type 0
AreInOrder [] = Unit {0}
AreInOrder (x ∷ xs) = AllByRecursion (λ y. is_gt (edge_cmp x y) ≡ false) xs × AreInOrder xs

-- ---- the steps of the pass over edges in order

abbrev pub top_is : Option Edge → Edge → Bool
top_is None e = false
top_is (Some top) e = is_eq (edge_cmp top e)

abbrev pub tops : List Edge → Edge → Bool
tops xs e = top_is (slice_get xs (length xs - 1)) e

-- the last edge goes where it is equal to e, and else e comes
abbrev pub put_on : List Edge → Edge → List Edge
put_on xs e = if tops xs e then take (length xs - 1) xs else xs ++ e ∷ []
