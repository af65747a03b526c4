-- What was taken from boxes, packet by packet. This project's own.
use Rattle.std.specs.Prelude.{ℕ, List, [], ◌∷◌, map, slice_get}
use Rattle.std.specs.List.{AllByRecursion, Contains, flat_map}
use Rattle.std.specs.Option.{option_map_or}
use Rattle.event_worlds.specs.acker_core.declared.verdict.Verdict.{Verdict}
use Rattle.box_rows.specs.declared.mail.Mail.{Mail}
use Rattle.box_rows.specs.declared.mail.Mail.TheVariants as mail
use Rattle.box_rows.specs.Mails.{IsTrueMail, box_of, last_box}
use Rattle.box_rows.specs.Rows.{IsViewAt}
use Rattle.task_queues.specs.Books.{taken_of}
use Rattle.task_queues.specs.declared.pass.Pass.{Pass}
use Rattle.task_queues.specs.declared.rule.Stamped.{Stamped}
use Rattle.task_queues.specs.declared.rule.View.{View}
use Rattle.task_queues.specs.Passes.{view_of}
use Rattle.event_worlds.specs.topology_plan.Topology.{Topology}
use Rattle.event_worlds.specs.tree_model.declared.messages.Parcel.{Parcel}
use Rattle.event_worlds.specs.tuple_account.Histories.{Packet, of_parcel, of_verdict}

-- the packets in a message of a box: each parcel of a run, or the verdict
abbrev pub packets_in : Mail → List Packet
packets_in (mail.Run parcels) = map of_parcel parcels
packets_in (mail.Verdict v) = of_verdict v ∷ []

-- the packets in the taken lists that a pass knows of
abbrev pub packets_by : View Mail → List Packet
packets_by v = flat_map (λ (s : Stamped Mail). packets_in s.item) (taken_of v.books)

-- the packets in the taken lists of the box of a number, as the row's pass to it knows them
abbrev pub packets_at : ℕ → List (Pass Mail) → List Packet
packets_at n row = option_map_or (λ (p : Pass Mail). packets_by (view_of p)) (slice_get row n) []

-- the packets in the taken lists of all boxes
abbrev pub all_packets : List (Pass Mail) → List Packet
all_packets row = flat_map (λ (p : Pass Mail). packets_by (view_of p)) row

-- a parcel stands in a taken list of the box that it goes to
abbrev pub WasTaken : Topology → List (Pass Mail) → Parcel → Type 0
WasTaken t row parcel = Contains (packets_at (box_of t parcel) row) (of_parcel parcel)

-- a verdict stands in a taken list of the coordinator's box
abbrev pub WasHeard : Topology → List (Pass Mail) → Verdict → Type 0
WasHeard t row v = Contains (packets_at (last_box t) row) (of_verdict v)

-- each message that a pass took is true of the plan and the box that the pass names
abbrev pub TookTruly : View Mail → Type 0
TookTruly v =
    AllByRecursion (λ (s : Stamped Mail). IsTrueMail v.plan v.owner s.item) (taken_of v.books)

-- each message in a taken list of a box fits the plan, and is for that box
abbrev pub TookTrue : Topology → List (Pass Mail) → Type 0
TookTrue t row =
    (n : ℕ) (v : View Mail) → IsViewAt n row v
    → AllByRecursion (λ (s : Stamped Mail). IsTrueMail t n s.item) (taken_of v.books)
