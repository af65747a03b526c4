-- The rule of a box: what holds of what it holds, oldest first, and of what all passes know,
-- between any two steps. This project's own.
use Rattle.std.specs.Prelude.{◌≡◌, ◌⊎◌, ℕ, ◌<◌, ◌≤◌, false, List, [], ◌∷◌, ◌++◌, length, map}
use Rattle.std.specs.List.{AllByRecursion, flat_map}
use mathlib.Core.Option.{some}
use lib.ListN.{get_elem?}
use Rattle.counted_items.specs.Weights.{weigh, Same}
use Rattle.pass_numbers.specs.Numbers.{Numbered}
use Rattle.topology_plan.specs.Topology.{Topology}
use Rattle.task_queues.specs.declared.rule.Book.{Book}
use Rattle.task_queues.specs.declared.rule.Stamped.{Stamped}
use Rattle.task_queues.specs.declared.rule.View.{View}
use Rattle.task_queues.specs.Books.{all_shares, blank, sent_of, taken_of, numbers_of}

module _ {M : Type 0} where
  -- the messages without their stamps
  abbrev pub items_of : List (Stamped M) → List M
  items_of stamps = map (λ (s : Stamped M). s.item) stamps

  -- of one number, the first has the lower place
  abbrev pub Below : Stamped M → Stamped M → Type 0
  Below s t = s.digits ≡ t.digits → s.place < t.place

  -- the stamps of each number rise
  abbrev pub Rises : List (Stamped M) → Type 0
  Rises [] = Unit {0}
  Rises (s ∷ stamps) = AllByRecursion (Below s) stamps × Rises stamps

  -- Each sent stamp stands once, in the box or in one taken list, with the message that was sent.
  -- No other stamp stands.
  abbrev pub Balanced : List (Stamped M) → List (View M) → Type 0
  Balanced held views =
      Same (flat_map (λ (v : View M). sent_of v.books) views)
      (flat_map (λ (v : View M). taken_of v.books) views ++ held)

  -- a pass with a number has some share
  abbrev pub HasShare : View M → Type 0
  HasShare v = (v.books ≡ []) ⊎ (1 ≤ v.share)

  -- part of the first pass's share was lost, or all of it is there and each pass has some
  abbrev pub Shared : List (View M) → Type 0
  Shared views =
      (weigh (λ (v : View M). v.share) views < all_shares)
      ⊎ ((weigh (λ (v : View M). v.share) views ≡ all_shares) × AllByRecursion HasShare views)

module _ {M : Type 0} (is_true : Topology → ℕ → M → Type 0) where
  -- A book of a view: the view names the terms of the box, what was sent and taken is true, and the
  -- stamps of what was taken rise, those in the box above them.
  pub record IsKept (plan : Topology) (owner capacity : ℕ) (held : List (Stamped M)) (v : View M)
      (b : Book M) : Type 0 where
    pub plan_is : v.plan ≡ plan
    pub owner_is : v.owner ≡ owner
    pub capacity_is : v.capacity ≡ capacity
    pub sent_true : AllByRecursion (is_true plan owner) b.sent
    pub taken_true : AllByRecursion (λ (s : Stamped M). is_true plan owner s.item) b.taken
    pub rises : Rises (b.taken ++ held)

  -- a box whose passes name its plan, owner and capacity
  pub record Kept (items : List M) (views : List (View M)) : Type 0 where
    pub plan : Topology
    pub owner : ℕ
    pub capacity : ℕ
    pub held : List (Stamped M)
    pub held_are : items_of held ≡ items
    pub few : length items ≤ capacity
    pub items_true : AllByRecursion (is_true plan owner) items
    pub named : AllByRecursion (λ (v : View M). v.fresh ≡ false) views
    pub books : AllByRecursion
        (λ (v : View M). AllByRecursion (IsKept plan owner capacity held v) v.books) views
    pub rises : Rises held
    pub balanced : Balanced held views
    pub numbered : Numbered numbers_of views
    pub shared : Shared views

  -- a box that is being made, or one whose passes name its terms
  abbrev pub Ruled : List M → List (View M) → Type 0
  Ruled items views = ((items ≡ []) × (views ≡ blank ∷ [])) ⊎ Kept items views

  -- at some moment the box held these messages, under the rule, and this pass knew this
  pub record Stood (v : View M) (items : List M) : Type 0 where
    pub views : List (View M)
    pub kept : Kept items views
    pub pass : ℕ
    pub here : get_elem? views pass ≡ some v
