-- Items with a code, a tree of numbers that is another for each item, so that their
-- equality can be decided.
use Rattle.std.specs.Prelude.{ℕ, Bool, true, false, ◌==◌, ◌&&◌, if◌then◌else◌, List}
use Rattle.std.specs.Coded.{Coded}
use base.Stored.{Gv, gnil, gnum, gcons}
use Rattle.counted_items.specs.Weights.{weigh}

-- whether two codes are one
abbrev pub code_eq : Gv → Gv → Bool
code_eq gnil gnil = true
code_eq gnil (gnum n) = false
code_eq gnil (gcons a b) = false
code_eq (gnum n) gnil = false
code_eq (gnum n) (gnum m) = n == m
code_eq (gnum n) (gcons a b) = false
code_eq (gcons a b) gnil = false
code_eq (gcons a b) (gnum n) = false
code_eq (gcons a b) (gcons c d) = code_eq a c && code_eq b d

module _ {X : Type 0} where
  -- whether two items are one
  abbrev pub is_same : Coded X → X → X → Bool
  is_same coded x y = code_eq (coded.code x) (coded.code y)

  -- the weight that is 1 at an item and 0 at all others
  abbrev pub is_item : Coded X → X → X → ℕ
  is_item coded x y = if is_same coded y x then 1 else 0

  -- how often an item stands in a list
  abbrev pub times : Coded X → X → List X → ℕ
  times coded x xs = weigh (is_item coded x) xs
