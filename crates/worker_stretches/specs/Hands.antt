-- Items dealt out to hands, and gathered again. This project's own.
use Rattle.std.specs.Prelude.{◌≡◌, ℕ, List, [], ◌∷◌, ◌++◌, ◌+◌, ◌%◌, Some, Vec, slice_get, slice_set}
use Rattle.std.specs.List.{AllByRecursion, flat_map}
use Rattle.std.specs.declared.alloc.Global.{Global}

-- what all hands hold
abbrev pub items_in : {X : Type 0} → List (Vec X Global) → List X
items_in {X} hands = flat_map (λ (v : Vec X Global). v.items) hands

-- the item stands at a place whose number, counted on from the first, is that of a hand in turn
pub record IsInTurn {X : Type 0} (first count hand : ℕ) (items : List X) (x : X) : Type 0 where
  pub place : ℕ
  pub there : slice_get items place ≡ Some x
  pub turn : (first + place) % count ≡ hand

-- items were dealt out one after another, the first to this hand
abbrev pub AreInTurn : {X : Type 0} → ℕ → ℕ → List X → List (Vec X Global) → Type 0
AreInTurn {X} first count items hands =
    (n : ℕ) (hand : Vec X Global) → slice_get hands n ≡ Some hand
    → AllByRecursion (IsInTurn first count n items) hand.items

-- the hand at a place got one more item
pub record GivesAt {X : Type 0} (n : ℕ) (x : X) (old new : List (Vec X Global)) : Type 0 where
  pub before : Vec X Global
  pub after : Vec X Global
  pub at : slice_get old n ≡ Some before
  pub items : after.items ≡ before.items ++ x ∷ []
  pub others : new ≡ slice_set old n after
