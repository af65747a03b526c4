-- What a pass with all numbers knows of its box.
use Rattle.std.specs.Prelude.{◌≡◌, ℕ, ◌≤◌, List, ◌++◌, length, filter, Any}
use Rattle.std.specs.List.{AllByRecursion}
use Rattle.std.specs.Str.{bytes_eq}
use Rattle.std.specs.Coded.{Coded}
use Rattle.counted_items.specs.Weights.{Same}
use Rattle.task_queues.specs.declared.rule.Book.{Book}
use Rattle.task_queues.specs.declared.rule.Stamped.{Stamped}
use Rattle.task_queues.specs.declared.rule.View.{View}
use Rattle.topology_plan.specs.Topology.{Topology}
use Rattle.task_queues.specs.Books.{stamped, sent_of, taken_of}
use Rattle.task_queues.specs.Rule.{items_of, Rises}

module _ {M : Type 0} where
  -- the stamps of one number, in their order
  abbrev pub stamps_under : List ℕ → List (Stamped M) → List (Stamped M)
  stamps_under digits stamps = filter (λ (s : Stamped M). bytes_eq s.digits digits) stamps

  -- what was sent under each number stands there in its order, whole and once
  abbrev pub Arrives : List (Book M) → List (Stamped M) → Type 0
  Arrives books stamps =
      AllByRecursion (λ (b : Book M). stamps_under b.number.digits stamps ≡ stamped b) books

  -- all that was taken was taken under one number
  abbrev pub HasOneTaker : List (Book M) → Type 0
  HasOneTaker books = Any (λ (b : Book M). taken_of books ≡ b.taken) books

  -- These are the messages that are left: with what was taken they are all that was sent, each
  -- once; of each number they are in order, above what was taken. With one taker, what it took and
  -- then these are, of each sender, what it sent in its order.
  pub record IsLeft (books : List (Book M)) (items : List M) : Type 0 where
    pub held : List (Stamped M)
    pub held_are : items_of held ≡ items
    pub all : Same (sent_of books) (taken_of books ++ held)
    pub rises : Rises held
    pub above : AllByRecursion (λ (b : Book M). Rises (b.taken ++ held)) books
    pub arrives : Coded M → HasOneTaker books → Arrives books (taken_of books ++ held)

  -- These stamps are what the box holds: with what was taken they are all that was sent, each once.
  -- They are true and no more than the capacity, and of each number they rise, above what was
  -- taken. What was taken is true too.
  pub record HoldsRest (is_true : Topology → ℕ → M → Type 0) (v : View M) : Type 0 where
    pub held : List (Stamped M)
    pub all : Same (sent_of v.books) (taken_of v.books ++ held)
    pub are_true : AllByRecursion (λ (s : Stamped M). is_true v.plan v.owner s.item) held
    pub took_true : AllByRecursion (λ (s : Stamped M). is_true v.plan v.owner s.item)
        (taken_of v.books)
    pub few : length held ≤ v.capacity
    pub rises : Rises held
    pub above : AllByRecursion (λ (b : Book M). Rises (b.taken ++ held)) v.books
