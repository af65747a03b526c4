-- Rows of passes that have all numbers of their boxes. This project's own.
use Rattle.std.specs.Prelude.{◌≡◌, ℕ, ◌+◌, ◌-◌, List, length, map}
use Rattle.std.specs.List.{AllByRecursion}
use Rattle.pass_numbers.specs.Numbers.{IsWhole}
use Rattle.box_rows.specs.declared.mail.Mail.{Mail}
use Rattle.box_rows.specs.Mails.{IsTrueMail, last_box, weigh_mail}
use Rattle.box_rows.specs.Rows.{ArePasses, IsViewAt, sent_in, taken_in}
use Rattle.task_queues.specs.Books.{numbers_of}
use Rattle.task_queues.specs.declared.pass.Mailbox.{Mailbox}
use Rattle.task_queues.specs.declared.pass.Pass.{Pass}
use Rattle.task_queues.specs.declared.rule.View.{View}
use Rattle.task_queues.specs.Passes.{view_of}
use Rattle.task_queues.specs.Whole.{HoldsRest}
use Rattle.event_worlds.specs.topology_plan.Topology.{Topology}
use Rattle.event_worlds.specs.tuple_account.Histories.{Packet}

-- a view has all numbers, and says what the box holds: what was sent and was not taken
pub record IsFitView (v : View Mail) : Type 0 where
  pub whole : IsWhole (numbers_of v)
  pub rest : HoldsRest IsTrueMail v

-- each pass of a row has all numbers of its box
abbrev pub AreWhole : List (Pass Mail) → Type 0
AreWhole row = AllByRecursion (λ (v : View Mail). IsWhole (numbers_of v)) (map view_of row)

-- a pass to each box of the plan, and each with all numbers says what its box holds
pub record IsFitRow (t : Topology) (boxes : List (Mailbox Mail)) (row : List (Pass Mail))
    : Type 0 where
  pub passes : ArePasses t boxes row
  pub boxes_are : length boxes ≡ last_box t + 1
  pub fit : AllByRecursion IsFitView (map view_of row)

-- what boxes hold: what was sent and was not taken
abbrev pub held_in : List (Pass Mail) → (Packet → ℕ) → ℕ
held_in row f = sent_in row f - taken_in row f

-- one more is held
abbrev pub HoldsMore : Mail → List (Pass Mail) → List (Pass Mail) → Type 0
HoldsMore mail old new = (f : Packet → ℕ) → held_in new f ≡ held_in old f + weigh_mail f mail

-- the row's pass to the box of a number says what it holds, where it has all numbers
abbrev pub TellsAt : ℕ → List (Pass Mail) → Type 0
TellsAt n row =
    (v : View Mail) → IsViewAt n row v → IsWhole (numbers_of v) → HoldsRest IsTrueMail v
