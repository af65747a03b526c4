-- What a task has still to hand over, as runs. This project's own.
use Rattle.std.specs.Prelude.{◌≡◌, ◌<◌, ◌≤◌, ◌⊎◌, ℕ, ◌+◌, Bool, true, false, List, [], ◌∷◌, length, Some, slice_get}
use Rattle.std.specs.List.{AllByRecursion}
use Rattle.box_rows.specs.declared.mail.Mail.{Mail}
use Rattle.box_rows.specs.declared.mail.Mail.TheVariants as mail
use Rattle.box_rows.specs.Mails.{IsRunFor, most_in_run}
use Rattle.box_rows.specs.Rows.{CouldBeFull, IsSameRow, sent_in, taken_in}
use Rattle.event_worlds.specs.counted_items.Weights.{weigh}
use Rattle.task_queues.specs.declared.pass.Pass.{Pass}
use Rattle.event_worlds.specs.topology_plan.Topology.{Topology}
use Rattle.event_worlds.specs.tree_model.declared.messages.Parcel.{Parcel}
use Rattle.event_worlds.specs.tuple_account.Histories.{Packet, weigh_parcels}
use Rattle.worker_pool.specs.declared.outbox.Run.{Run}

-- the mail is a run
abbrev pub IsRun : Mail → Type 0
IsRun (mail.Run parcels) = Unit {0}
IsRun (mail.Verdict v) = ⊥

-- what the runs of an outbox weigh
abbrev pub weigh_outbox : (Packet → ℕ) → List Run → ℕ
weigh_outbox f runs = weigh (λ (r : Run). weigh_parcels f r.parcels) runs

-- each run is mail for the box that it names
abbrev pub IsOutbox : Topology → List Run → Type 0
IsOutbox t runs = AllByRecursion (λ (r : Run). IsRunFor t r.at r.parcels) runs

-- the run at a place is for a box, and has room for one more parcel
pub record HasRoom (at n : ℕ) (runs : List Run) : Type 0 where
  pub run : Run
  pub there : slice_get runs n ≡ Some run
  pub for_it : run.at ≡ at
  pub room : length run.parcels < most_in_run

-- these parcels were added
pub record AddsAll (parcels : List Parcel) (old new : List Run) : Type 0 where
  pub packets : (f : Packet → ℕ) → weigh_outbox f new ≡ weigh_outbox f old + weigh_parcels f parcels

-- the front run was sent
pub record SendsFront (old new : List Run) (was is : List (Pass Mail)) : Type 0 where
  pub run : Run
  pub front : old ≡ run ∷ new
  pub some : 1 ≤ length run.parcels
  pub sent : (f : Packet → ℕ) → sent_in is f ≡ sent_in was f + weigh_parcels f run.parcels
  pub taken : (f : Packet → ℕ) → taken_in is f ≡ taken_in was f

-- the box of the front run could be full
abbrev pub IsFrontFull : List Run → List (Pass Mail) → Type 0
IsFrontFull [] row = ⊥
IsFrontFull (run ∷ runs) row = CouldBeFull run.at row

-- An outbox handed over its front run, or nothing: it has none, or the run's box could be full.
pub record HandsOver (did : Bool) (old new : List Run) (was is : List (Pass Mail)) : Type 0 where
  pub sent : did ≡ true → SendsFront old new was is
  pub stays : did ≡ false → (new ≡ old) × IsSameRow was is
  pub held : did ≡ false → (old ≡ []) ⊎ IsFrontFull old was
