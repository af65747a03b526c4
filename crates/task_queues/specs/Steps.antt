-- What each kind of step tells the pass that makes it: of what it knew, the message, and what it
-- knows.
use Rattle.std.specs.Prelude.{◌≡◌, ℕ, ◌+◌, ◌<◌, List, ◌∷◌, ◌++◌, length}
use Rattle.std.specs.List.{AllByRecursion}
use Rattle.counted_items.specs.Weights.{Same}
use Rattle.pass_numbers.specs.Numbers.{IsWhole}
use Rattle.topology_plan.specs.Topology.{Topology}
use Rattle.task_queues.specs.declared.rule.Book.{Book}
use Rattle.task_queues.specs.declared.rule.Stamped.{Stamped}
use Rattle.task_queues.specs.declared.rule.View.{View}
use Rattle.task_queues.specs.Books.{sent_of, taken_of, sent_to, took, numbers_of}
use Rattle.task_queues.specs.Rule.{Rises, Stood}

module _ {M : Type 0} where
  -- the message was sent; a pass with all numbers knows that fewer than the capacity were not taken
  abbrev pub SendsOne : View M → M → View M → Type 0
  SendsOne v x w =
      (w ≡ sent_to v x)
      × (IsWhole (numbers_of v) → length (sent_of v.books) < length (taken_of v.books) + v.capacity)

  -- This stamp stood first in the box, under the rule: it was sent, and it had not been taken. It
  -- is above what the pass took of its number. A pass with all numbers knows that with the rest it
  -- is all that was not taken.
  pub record IsNext (is_true : Topology → ℕ → M → Type 0) (v : View M) (s : Stamped M) : Type 0 where
    pub items : List M
    pub stood : Stood is_true v items
    pub rest : List (Stamped M)
    pub first : stood.kept.held ≡ s ∷ rest
    pub above : AllByRecursion (λ (b : Book M). Rises (b.taken ++ s ∷ rest)) v.books
    pub whole : IsWhole (numbers_of v) → Same (sent_of v.books) (taken_of v.books ++ s ∷ rest)

  -- one message was taken, which is true, and whose stamp was the next
  abbrev pub TakesOne : (Topology → ℕ → M → Type 0) → View M → M → View M → Type 0
  TakesOne is_true v x w =
      (s : Stamped M) × (s.item ≡ x) × (w ≡ took v s) × is_true v.plan v.owner x
      × IsNext is_true v s
