-- What a piece of work moves between what a worker holds and the books of its row. This project's
-- own.
use Rattle.std.specs.Prelude.{◌≡◌, ℕ, ◌+◌, ◌-◌, ◌^◌, min, List, []}
use Rattle.event_worlds.specs.bolt_ops.RowOp.{Custom}
use Rattle.box_rows.specs.declared.mail.Mail.{Mail}
use Rattle.box_rows.specs.Rows.{sent_in, taken_in}
use Rattle.task_queues.specs.declared.pass.Pass.{Pass}
use Rattle.event_worlds.specs.topology_plan.Topology.{Topology}
use Rattle.event_worlds.specs.tuple_account.Histories.{History, Packet, taken}
use Rattle.event_worlds.specs.tuple_account.Moves.{Moves, Station}

-- a station, with what one row sent and what another took
abbrev pub with_books : Station → List (Pass Mail) → List (Pass Mail) → Station
with_books a sent taken = record {
  waiting = λ f. a.waiting f + (sent_in sent f + taken_in taken f);
  kept = a.kept;
  given = a.given;
}

-- What was held, issued and taken from boxes was taken by what happened, is held, or was sent to
-- boxes: each as often.
abbrev pub Works : Topology → Custom → Station → List (Pass Mail) → History → Station
    → List (Pass Mail) → Type 0
Works t custom a was h b is = Moves t custom (with_books a was is) h (with_books b is was)

-- What was left of what had been taken from boxes, and what was taken since, was executed, met or
-- heard, or is left: each as often.
abbrev pub Uses : ((Packet → ℕ) → ℕ) → List (Pass Mail) → History → ((Packet → ℕ) → ℕ)
    → List (Pass Mail) → Type 0
Uses left was h left_now is =
    (f : Packet → ℕ) → left f + taken_in is f ≡ left_now f + (taken_in was f + taken f h)

-- only tuples were executed, messages met, verdicts told and entries dropped
pub record IsInside (h : History) : Type 0 where
  pub starts : h.starts ≡ []
  pub begun : h.begun ≡ []
  pub heard : h.heard ≡ []

-- a number of words ends at 2^64 - 1
abbrev pub ended : ℕ → ℕ
ended n = min n (2 ^ 64 - 1)
