-- Passes that are split, used and joined again have the numbers that they had.
use Rattle.std.proofs.Common.{◌≡◌, List, [], ◌∷◌, ap, arith}
use Rattle.counted_items.specs.Weights.{weigh}
use Rattle.pass_numbers.specs.Numbers.{IsWhole, Numbered}
use Rattle.pass_numbers.proofs.Numbering.{one_numbered, one_whole, numbered_as, swap_beside, same_beside}
use Rattle.task_queues.specs.declared.rule.View.{View}
use Rattle.task_queues.specs.Books.{numbers_of}
use Rattle.queue_tests.specs.Keeping.{KeepsNumbers}

module _ {M : Type 0} where
  -- a pass that had all numbers has them after that
  pub whole_kept : (v w : View M) → KeepsNumbers v w → IsWhole (numbers_of v) → IsWhole (numbers_of w)
  whole_kept v w keeps whole = one_whole numbers_of w (keeps [] (one_numbered numbers_of v whole))

  -- the first two keep their numbers
  pub two_kept : (v w u x : View M) (others : List (View M)) → KeepsNumbers v w → KeepsNumbers u x → Numbered numbers_of (v ∷ u ∷ others) → Numbered numbers_of (w ∷ x ∷ others)
  two_kept v w u x others one other numbered =
      let moved : Numbered numbers_of (x ∷ w ∷ others) = other (w ∷ others) (swap_beside numbers_of w u others (one (u ∷ others) numbered)) in
      swap_beside numbers_of x w others moved

  -- a pass with the same numbers
  pub same_kept : (v w : View M) → numbers_of w ≡ numbers_of v → KeepsNumbers v w
  same_kept v w same others numbered = same_beside numbers_of v w others same numbered

  -- three that keep their numbers, beside others
  pub three_same : (v w u x y z : View M) (others : List (View M)) → numbers_of w ≡ numbers_of v → numbers_of x ≡ numbers_of u → numbers_of z ≡ numbers_of y
      → Numbered numbers_of (v ∷ u ∷ y ∷ others) → Numbered numbers_of (w ∷ x ∷ z ∷ others)
  three_same v w u x y z others one two three numbered =
      numbered_as numbers_of numbers_of (v ∷ u ∷ y ∷ others) (w ∷ x ∷ z ∷ others)
      (λ f.
      let a : weigh f (numbers_of w) ≡ weigh f (numbers_of v) = ap (weigh f) one in
      let b : weigh f (numbers_of x) ≡ weigh f (numbers_of u) = ap (weigh f) two in
      let c : weigh f (numbers_of z) ≡ weigh f (numbers_of y) = ap (weigh f) three in omega arith)
      numbered
