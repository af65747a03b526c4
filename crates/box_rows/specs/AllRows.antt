-- The rows of all workers. This project's own.
use Rattle.std.specs.Prelude.{◌≡◌, ◌<◌, ℕ, ◌+◌, List, [], ◌∷◌, length, map, Vec}
use Rattle.std.specs.List.{AllByRecursion}
use Rattle.std.specs.declared.alloc.Global.{Global}
use Rattle.event_worlds.specs.counted_items.Weights.{weigh}
use Rattle.pass_numbers.specs.declared.Number.{Number}
use Rattle.pass_numbers.specs.Numbers.{Numbered}
use Rattle.box_rows.specs.declared.mail.Mail.{Mail}
use Rattle.box_rows.specs.Rows.{ArePasses, numbers_at, sent_in, taken_in}
use Rattle.box_rows.specs.Splitting.{numbers_in_box}
use Rattle.task_queues.specs.declared.pass.Mailbox.{Mailbox}
use Rattle.task_queues.specs.declared.pass.Pass.{Pass}
use Rattle.task_queues.specs.declared.rule.View.{View}
use Rattle.task_queues.specs.Passes.{view_of}
use Rattle.event_worlds.specs.topology_plan.Topology.{Topology}
use Rattle.event_worlds.specs.tuple_account.Histories.{Packet}

abbrev pub Row : Type 0
Row = Vec (Pass Mail) Global

abbrev pub ArePassesIn : Topology → List (Mailbox Mail) → Row → Type 0
ArePassesIn t boxes row = ArePasses t boxes row.items

abbrev pub views_in : Row → List (View Mail)
views_in row = map view_of row.items

-- a row and others have all numbers of each box, each once
abbrev pub AreAll : ℕ → List (Pass Mail) → List Row → Type 0
AreAll n row rows = Numbered (numbers_in_box n) (map view_of row ∷ map views_in rows)

-- the numbers of rows, row by row and pass by pass
abbrev pub numbers_by : List Row → List (List (List Number))
numbers_by rows = map (λ (r : Row). map numbers_at r.items) rows

-- what the books of rows weigh
abbrev pub sent_by : List Row → (Packet → ℕ) → ℕ
sent_by rows f = weigh (λ (r : Row). sent_in r.items f) rows

abbrev pub taken_by : List Row → (Packet → ℕ) → ℕ
taken_by rows f = weigh (λ (r : Row). taken_in r.items f) rows

-- A row was split for others: it has the books that it had, theirs are empty, and together they
-- have its numbers.
pub record HasSplit (t : Topology) (boxes : List (Mailbox Mail)) (old new : List (Pass Mail))
    (rows : List Row) : Type 0 where
  pub passes : AllByRecursion (ArePassesIn t boxes) rows
  pub sent : (f : Packet → ℕ) → sent_in new f ≡ sent_in old f
  pub taken : (f : Packet → ℕ) → taken_in new f ≡ taken_in old f
  pub none_sent : (f : Packet → ℕ) → sent_by rows f ≡ 0
  pub none_taken : (f : Packet → ℕ) → taken_by rows f ≡ 0
  pub numbers : (n : ℕ) → n < length boxes → AreAll n old [] → AreAll n new rows

-- Rows were joined into one, up to the rest of them.
pub record HasJoined (old : List (Pass Mail)) (rows : List Row) (new : List (Pass Mail))
    (rest : List Row) : Type 0 where
  pub sent : (f : Packet → ℕ) → sent_in new f + sent_by rest f ≡ sent_in old f + sent_by rows f
  pub taken : (f : Packet → ℕ) → taken_in new f + taken_by rest f ≡ taken_in old f + taken_by rows f
  pub numbers : (n : ℕ) → AreAll n old rows → AreAll n new rest

-- A row has what it had, and all numbers of each of so many boxes where it had them.
pub record HasComeBack (count : ℕ) (old new : List (Pass Mail)) : Type 0 where
  pub sent : (f : Packet → ℕ) → sent_in new f ≡ sent_in old f
  pub taken : (f : Packet → ℕ) → taken_in new f ≡ taken_in old f
  pub numbers : (n : ℕ) → n < count → AreAll n old [] → AreAll n new []
