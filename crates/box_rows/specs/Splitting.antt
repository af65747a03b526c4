-- Rows of passes that are split and joined. This project's own.
use Rattle.std.specs.Prelude.{◌≡◌, ℕ, List, [], ◌∷◌, map, Some, get_or, slice_get, slice_set}
use Rattle.box_rows.specs.declared.mail.Mail.{Mail}
use Rattle.box_rows.specs.Rows.{IsPassFor}
use Rattle.pass_numbers.specs.declared.Number.{Number}
use Rattle.task_queues.specs.Books.{both_of, cut_of, kept_of, numbers_of}
use Rattle.task_queues.specs.declared.pass.Mailbox.{Mailbox}
use Rattle.task_queues.specs.declared.pass.Pass.{Pass}
use Rattle.task_queues.specs.declared.rule.View.{View}
use Rattle.task_queues.specs.Passes.{view_of}
use Rattle.event_worlds.specs.topology_plan.Topology.{Topology}

abbrev pub MailView : Type 0
MailView = View Mail

-- the numbers that a row's pass to a box has, by what the passes know
abbrev pub numbers_in_box : ℕ → List (View Mail) → List Number
numbers_in_box n vs = get_or (map numbers_of vs) n []

-- the pass is of the box of a number
abbrev pub IsPassAt : Topology → List (Mailbox Mail) → ℕ → Pass Mail → Type 0
IsPassAt t boxes n p = (box : Mailbox Mail) → slice_get boxes n ≡ Some box → IsPassFor t n box p

-- one pass of a row was split
pub record SplitsAt (t : Topology) (boxes : List (Mailbox Mail)) (n : ℕ)
    (old new : List (Pass Mail)) (made : Pass Mail) : Type 0 where
  pub is_for : IsPassAt t boxes n made
  pub before : View Mail
  pub at : slice_get (map view_of old) n ≡ Some before
  pub kept : map view_of new ≡ slice_set (map view_of old) n (kept_of before)
  pub cut : view_of made ≡ cut_of before

-- one pass of a row got another's books
pub record JoinsAt (n : ℕ) (other : Pass Mail) (old new : List (Pass Mail)) : Type 0 where
  pub before : View Mail
  pub at : slice_get (map view_of old) n ≡ Some before
  pub joined : map view_of new ≡ slice_set (map view_of old) n (both_of before (view_of other))

-- each with the other's books behind its own
abbrev pub joined_views : List (View Mail) → List (View Mail) → List (View Mail)
joined_views [] us = []
joined_views (v ∷ vs) [] = v ∷ vs
joined_views (v ∷ vs) (u ∷ us) = both_of v u ∷ joined_views vs us
