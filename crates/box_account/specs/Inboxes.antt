-- What stands in the inboxes of a world: it was taken from boxes, and was not yet executed, met or
-- heard. This project's own.
use Rattle.std.specs.Prelude.{◌≡◌, ℕ, ◌+◌, List, [], ◌∷◌}
use Rattle.box_rows.specs.declared.mail.Mail.{Mail}
use Rattle.box_rows.specs.Rows.{taken_in}
use Rattle.event_worlds.specs.counted_items.Weights.{weigh}
use Rattle.event_worlds.specs.Worlds.{AckerSide, TaskSide, World}
use Rattle.task_queues.specs.declared.pass.Pass.{Pass}
use Rattle.event_worlds.specs.tree_model.declared.messages.AckMsg.{AckMsg}
use Rattle.event_worlds.specs.tree_model.declared.messages.Parcel.TheVariants.{ToTask, ToAcker}
use Rattle.event_worlds.specs.tree_model.declared.messages.Tuple.{Tuple}
use Rattle.event_worlds.specs.tuple_account.Histories.{History, Packet, of_parcel, of_verdict, taken}

-- what stands in the inboxes of tasks from a number on
abbrev pub weigh_task_inboxes : (Packet → ℕ) → ℕ → List TaskSide → ℕ
weigh_task_inboxes f n [] = 0
weigh_task_inboxes f n (side ∷ sides) =
    weigh (λ (tuple : Tuple). f (of_parcel (ToTask n tuple))) side.inbox
    + weigh_task_inboxes f (n + 1) sides

-- the same of ackers
abbrev pub weigh_acker_inboxes : (Packet → ℕ) → ℕ → List AckerSide → ℕ
weigh_acker_inboxes f n [] = 0
weigh_acker_inboxes f n (side ∷ sides) =
    weigh (λ (m : AckMsg). f (of_parcel (ToAcker n m))) side.inbox
    + weigh_acker_inboxes f (n + 1) sides

-- what stands in all inboxes, the coordinator's with it
abbrev pub weigh_inboxes : (Packet → ℕ) → World → ℕ
weigh_inboxes f w =
    weigh_task_inboxes f 0 w.tasks
    + (weigh_acker_inboxes f 0 w.ackers + weigh (λ v. f (of_verdict v)) w.verdicts)

-- what was taken from boxes was executed, met or heard, or stands in an inbox
abbrev pub GoesThrough : List (Pass Mail) → History → World → Type 0
GoesThrough row h w = (f : Packet → ℕ) → taken_in row f ≡ taken f h + weigh_inboxes f w
