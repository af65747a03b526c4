-- What the passes of a box know: the terms of the box, and a book for each number of what was sent
-- and taken under it. This project's own.
use Rattle.std.specs.Prelude.{ℕ, suc, ◌+◌, ◌-◌, ◌/◌, max, nat_lt, if◌then◌else◌, true, false, List, [], ◌∷◌, ◌++◌, map}
use Rattle.std.specs.List.{flat_map}
use Rattle.pass_numbers.specs.declared.Number.{Number}
use Rattle.pass_numbers.specs.Numbers.{fresh}
use Rattle.topology_plan.specs.Topology.{Topology}
use Rattle.topology_plan.specs.declared.parts.Kind.TheVariants.{Transactional}
use Rattle.task_queues.specs.declared.rule.Book.{Book}
use Rattle.task_queues.specs.declared.rule.Stamped.{Stamped}
use Rattle.task_queues.specs.declared.rule.View.{View}

-- stands for the plan of a box that is being made
abbrev pub no_plan : Topology
no_plan = record {
  spout_fields = [];
  spout_kind = Transactional;
  batch = 0;
  partitions = 0;
  components = [];
  spout_subs = [];
  component_subs = [];
  ackers = 0;
  pending = 0;
  buckets = 0;
  attempts = 0;
}

-- ---- shares

-- the share of a box's first pass
abbrev pub all_shares : ℕ
all_shares = 65535

-- what a split gives the new pass of a share: a 256th, at least 1; a share below 2 is lost
abbrev pub given_share : ℕ → ℕ
given_share share = if nat_lt share 2 then 0 else max 1 (share / 256)

-- what a split leaves
abbrev pub left_share : ℕ → ℕ
left_share share = if nat_lt share 2 then 0 else share - max 1 (share / 256)

module _ {M : Type 0} where
  -- ---- stamps

  -- the stamp of a message: the digits of the number and the place under which it was sent
  abbrev pub stamp : List ℕ → ℕ → M → Stamped M
  stamp digits place x = record { digits = digits; place = place; item = x }

  -- messages with their stamps, the first of them at this place
  abbrev pub stamped_from : List ℕ → ℕ → List M → List (Stamped M)
  stamped_from digits place [] = []
  stamped_from digits place (x ∷ xs) = stamp digits place x ∷ stamped_from digits (suc place) xs

  -- what was sent under a number, with its stamps
  abbrev pub stamped : Book M → List (Stamped M)
  stamped b = stamped_from b.number.digits 0 b.sent

  -- all that was sent, book by book
  abbrev pub sent_of : List (Book M) → List (Stamped M)
  sent_of books = flat_map stamped books

  -- all that was taken, book by book
  abbrev pub taken_of : List (Book M) → List (Stamped M)
  taken_of books = flat_map (λ (b : Book M). b.taken) books

  -- the numbers of the books
  abbrev pub numbers_in : List (Book M) → List Number
  numbers_in books = map (λ (b : Book M). b.number) books

  -- ---- books after a step

  abbrev pub empty_book : Number → Book M
  empty_book number = record { number = number; sent = []; taken = [] }

  -- one more message was sent under the first number
  abbrev pub sent_first : List (Book M) → M → List (Book M)
  sent_first [] x = []
  sent_first (b ∷ bs) x =
      record { number = b.number; sent = b.sent ++ x ∷ []; taken = b.taken } ∷ bs

  -- one more was taken under the first number
  abbrev pub taken_first : List (Book M) → Stamped M → List (Book M)
  taken_first [] s = []
  taken_first (b ∷ bs) s =
      record { number = b.number; sent = b.sent; taken = b.taken ++ s ∷ [] } ∷ bs

  -- a split goes by the first number
  abbrev pub kept_first : List (Book M) → List (Book M)
  kept_first [] = []
  kept_first (b ∷ bs) =
      record {
        number = record { digits = b.number.digits; splits = b.number.splits + 1 };
        sent = b.sent;
        taken = b.taken;
      } ∷ bs

  abbrev pub cut_first : List (Book M) → List (Book M)
  cut_first [] = []
  cut_first (b ∷ bs) = empty_book (fresh (b.number.digits ++ b.number.splits ∷ [])) ∷ []

  -- ---- views

  abbrev pub viewed : Topology → ℕ → ℕ → ℕ → List (Book M) → View M
  viewed plan owner capacity share books =
      record {
        fresh = false;
        plan = plan;
        owner = owner;
        capacity = capacity;
        share = share;
        books = books;
      }

  -- the view of a pass that is no more
  abbrev pub no_view : View M
  no_view = viewed no_plan 0 0 0 []

  -- the view of a box that is being made
  abbrev pub blank : View M
  blank =
      record {
        fresh = true;
        plan = no_plan;
        owner = 0;
        capacity = 0;
        share = 0;
        books = [];
      }

  -- the view of a box's first pass
  abbrev pub first_view : Topology → ℕ → ℕ → View M
  first_view plan owner capacity =
      viewed plan owner capacity all_shares (empty_book (fresh []) ∷ [])

  -- the same terms with another share and other books
  abbrev pub with_share : View M → ℕ → List (Book M) → View M
  with_share v share books =
      record {
        fresh = v.fresh;
        plan = v.plan;
        owner = v.owner;
        capacity = v.capacity;
        share = share;
        books = books;
      }

  -- the same terms with other books
  abbrev pub with_books : View M → List (Book M) → View M
  with_books v books = with_share v v.share books

  abbrev pub sent_to : View M → M → View M
  sent_to v x = with_books v (sent_first v.books x)

  abbrev pub took : View M → Stamped M → View M
  took v s = with_books v (taken_first v.books s)

  abbrev pub kept_of : View M → View M
  kept_of v = with_share v (left_share v.share) (kept_first v.books)

  abbrev pub cut_of : View M → View M
  cut_of v = with_share v (given_share v.share) (cut_first v.books)

  -- a join adds the other's share, and appends its books
  abbrev pub both_of : View M → View M → View M
  both_of v w = with_share v (v.share + w.share) (v.books ++ w.books)

  -- the numbers of a pass
  abbrev pub numbers_of : View M → List Number
  numbers_of v = numbers_in v.books
