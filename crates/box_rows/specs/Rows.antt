-- Rows of passes, one to each box, and what their books weigh. This project's own.
use Rattle.std.specs.Prelude.{◌≡◌, ℕ, ◌+◌, List, length, map, Some, slice_get, slice_set}
use Rattle.event_worlds.specs.counted_items.Weights.{Same, weigh}
use Rattle.crossbeam_queue.specs.Fifo.{Held}
use Rattle.pass_numbers.specs.declared.Number.{Number}
use Rattle.box_rows.specs.declared.mail.Mail.{Mail}
use Rattle.box_rows.specs.Mails.{IsTrueMail, weigh_mail}
use Rattle.task_queues.specs.Books.{sent_of, taken_of, numbers_of, sent_to, took}
use Rattle.task_queues.specs.declared.pass.Mailbox.{Mailbox}
use Rattle.task_queues.specs.declared.pass.Pass.{Pass}
use Rattle.task_queues.specs.declared.rule.Stamped.{Stamped}
use Rattle.task_queues.specs.declared.rule.View.{View}
use Rattle.task_queues.specs.Passes.{IsPassOf, view_of}
use Rattle.task_queues.specs.Rule.{Stood}
use Rattle.task_queues.specs.Steps.{IsNext}
use Rattle.event_worlds.specs.topology_plan.Topology.{Topology}
use Rattle.event_worlds.specs.tuple_account.Histories.{Packet}

-- the pass is of the box of a number, and names the plan and that number
pub record IsPassFor (t : Topology) (n : ℕ) (box : Mailbox Mail) (p : Pass Mail) : Type 0 where
  pub pass : IsPassOf box p
  pub plan : (view_of p).plan ≡ t
  pub owner : (view_of p).owner ≡ n

-- a pass to each box
pub record ArePasses (t : Topology) (boxes : List (Mailbox Mail)) (row : List (Pass Mail))
    : Type 0 where
  pub many : length row ≡ length boxes
  pub each : (n : ℕ) (box : Mailbox Mail) (p : Pass Mail) → slice_get boxes n ≡ Some box
      → slice_get row n ≡ Some p → IsPassFor t n box p

-- ---- weights

-- what stands in a view's books of what was sent, and of what was taken
abbrev pub weigh_sent : (Packet → ℕ) → View Mail → ℕ
weigh_sent f v = weigh (λ (s : Stamped Mail). weigh_mail f s.item) (sent_of v.books)

abbrev pub weigh_taken : (Packet → ℕ) → View Mail → ℕ
weigh_taken f v = weigh (λ (s : Stamped Mail). weigh_mail f s.item) (taken_of v.books)

-- the same of a row of passes
abbrev pub sent_in : List (Pass Mail) → (Packet → ℕ) → ℕ
sent_in row f = weigh (λ (p : Pass Mail). weigh_sent f (view_of p)) row

abbrev pub taken_in : List (Pass Mail) → (Packet → ℕ) → ℕ
taken_in row f = weigh (λ (p : Pass Mail). weigh_taken f (view_of p)) row

abbrev pub numbers_at : Pass Mail → List Number
numbers_at p = numbers_of (view_of p)

-- ---- steps

-- what the row's pass to the box of a number knows
abbrev pub IsViewAt : ℕ → List (Pass Mail) → View Mail → Type 0
IsViewAt n row v = slice_get (map view_of row) n ≡ Some v

-- no pass knows anything else
pub record IsSameRow (old new : List (Pass Mail)) : Type 0 where
  pub views : map view_of new ≡ map view_of old
  pub sent : (f : Packet → ℕ) → sent_in new f ≡ sent_in old f
  pub taken : (f : Packet → ℕ) → taken_in new f ≡ taken_in old f

-- the pass to the box of a number sent this, and no other pass knows anything else
pub record HasSent (n : ℕ) (mail : Mail) (old new : List (Pass Mail)) : Type 0 where
  pub before : View Mail
  pub there : IsViewAt n old before
  pub views : map view_of new ≡ slice_set (map view_of old) n (sent_to before mail)
  pub sent : (f : Packet → ℕ) → sent_in new f ≡ sent_in old f + weigh_mail f mail
  pub taken : (f : Packet → ℕ) → taken_in new f ≡ taken_in old f

-- it took this, whose stamp stood first in the box
pub record HasTaken (n : ℕ) (mail : Mail) (old new : List (Pass Mail)) : Type 0 where
  pub before : View Mail
  pub there : IsViewAt n old before
  pub stamp : Stamped Mail
  pub item : stamp.item ≡ mail
  pub first : IsNext IsTrueMail before stamp
  pub views : map view_of new ≡ slice_set (map view_of old) n (took before stamp)
  pub sent : (f : Packet → ℕ) → sent_in new f ≡ sent_in old f
  pub taken : (f : Packet → ℕ) → taken_in new f ≡ taken_in old f + weigh_mail f mail

-- what a pass with all numbers knows of a full box, and of an empty one
abbrev pub IsFull : View Mail → Type 0
IsFull v = length (sent_of v.books) ≡ length (taken_of v.books) + v.capacity

abbrev pub IsEmpty : View Mail → Type 0
IsEmpty v = Same (sent_of v.books) (taken_of v.books)

-- under the rule a box could be full, or empty, while the row's pass to it knew this
abbrev pub CouldBeFull : ℕ → List (Pass Mail) → Type 0
CouldBeFull n row = (v : View Mail) → IsViewAt n row v → Held v.capacity (Stood IsTrueMail v)

abbrev pub CouldBeEmpty : ℕ → List (Pass Mail) → Type 0
CouldBeEmpty n row = (v : View Mail) → IsViewAt n row v → Held 0 (Stood IsTrueMail v)
