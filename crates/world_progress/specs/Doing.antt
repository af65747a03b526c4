-- How much was done: a number that never falls. This project's own.
use Rattle.std.specs.Prelude.{ℕ, ◌+◌, List, length}
use Rattle.event_worlds.specs.counted_items.Weights.{weigh}
use Rattle.event_worlds.specs.Worlds.{AckerSide, TaskSide, World}
use Rattle.event_worlds.specs.tuple_account.Histories.{History}

-- how many items stand in boxes, outboxes aside
abbrev pub tuples_in : List TaskSide → ℕ
tuples_in sides = weigh (λ (side : TaskSide). length side.inbox) sides

abbrev pub messages_in : List AckerSide → ℕ
messages_in sides = weigh (λ (side : AckerSide). length side.inbox) sides

abbrev pub in_boxes : World → ℕ
in_boxes w = tuples_in w.tasks + (messages_in w.ackers + length w.verdicts)

-- how many items were taken from boxes
abbrev pub taken_from : History → ℕ
taken_from h = length h.runs + (length h.met + length h.heard)

-- What was handed over (it was taken or stands in a box), executions, messages met and verdicts
-- heard (what was taken), begins and commits.
abbrev pub done : History → World → ℕ
done h w = (taken_from h + in_boxes w) + (taken_from h + (length h.begun + w.desk.committed))
