-- The passes of boxes that were made for a plan. This project's own.
use Rattle.std.specs.Prelude.{ℕ, ◌+◌, List, map}
use Rattle.std.specs.List.{range_with_len}
use Rattle.box_rows.specs.declared.mail.Mail.{Mail}
use Rattle.box_rows.specs.Mails.{last_box}
use Rattle.task_queues.specs.Books.{first_view}
use Rattle.task_queues.specs.declared.rule.View.{View}
use Rattle.event_worlds.specs.topology_plan.Topology.{Topology}

-- how many messages a box holds at most
abbrev pub box_capacity : ℕ
box_capacity = 256

-- what the first passes to so many boxes know: nothing was sent and nothing taken
abbrev pub first_of : Topology → ℕ → List (View Mail)
first_of t count = map (λ (n : ℕ). first_view t n box_capacity) (range_with_len 0 count)

-- a box for each task, each acker and the coordinator
abbrev pub first_views : Topology → List (View Mail)
first_views t = first_of t (last_box t + 1)
