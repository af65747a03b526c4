-- Packets that are carried to where they go, through boxes, while nobody works. This project's own.
use Rattle.std.specs.Prelude.{◌≡◌, ◌≤◌, ℕ, ◌+◌, List, [], map}
use Rattle.std.specs.List.{AllByRecursion}
use Rattle.event_worlds.specs.acker_core.declared.verdict.Verdict.{Verdict}
use Rattle.worker_stretches.specs.box_rows.declared.mail.Mail.{Mail}
use Rattle.worker_stretches.specs.box_rows.declared.mail.Mail.TheVariants as mail
use Rattle.worker_stretches.specs.box_rows.FitRows.{held_in}
use Rattle.worker_stretches.specs.box_rows.Mails.{weigh_mail}
use Rattle.worker_stretches.specs.box_rows.Rows.{IsEmpty, IsViewAt, taken_in}
use Rattle.event_worlds.specs.commit_order.Orders.{Stand}
use Rattle.event_worlds.specs.counted_items.Weights.{weigh}
use Rattle.worker_stretches.specs.event_engine.declared.engine.Engine.{Engine}
use Rattle.worker_stretches.specs.event_engine.Engines.{IsStill, shape, sources}
use Rattle.event_worlds.specs.Accounted.{weigh_ackers, weigh_tasks}
use Rattle.event_worlds.specs.Orderly.{FitsParcel}
use Rattle.event_worlds.specs.Worlds.{AckerSide, TaskSide, World}
use Rattle.event_worlds.specs.rotating_ledger.Held.{Held}
use Rattle.event_worlds.specs.storm_ids.declared.ids.Ids.{Ghosts}
use Rattle.task_queues.specs.declared.pass.Pass.{Pass}
use Rattle.task_queues.specs.declared.rule.View.{View}
use Rattle.task_queues.specs.Passes.{view_of}
use Rattle.event_worlds.specs.topology_plan.Topology.{Topology}
use Rattle.event_worlds.specs.tree_model.declared.messages.AckMsg.{AckMsg}
use Rattle.event_worlds.specs.tree_model.declared.messages.Parcel.{Parcel}
use Rattle.event_worlds.specs.tuple_account.Histories.{Packet, of_verdict, weigh_parcels}
use Rattle.worker_stretches.specs.box_account.Inboxes.{weigh_inboxes}
use Rattle.worker_stretches.specs.Teams.{Waiting}

-- ---- boxes

-- no box holds anything
abbrev pub AreEmpty : List (Pass Mail) → Type 0
AreEmpty row = AllByRecursion (λ (v : View Mail). IsEmpty v) (map view_of row)

-- a box takes a message where it is empty
abbrev pub HaveRoom : List (Pass Mail) → Type 0
HaveRoom row = AllByRecursion (λ (v : View Mail). 1 ≤ v.capacity) (map view_of row)

-- the box of a number is empty
abbrev pub IsEmptyAt : ℕ → List (Pass Mail) → Type 0
IsEmptyAt n row = (v : View Mail) → IsViewAt n row v → IsEmpty v

-- the passes to all other boxes know what they knew
abbrev pub KeepsOthers : ℕ → List (Pass Mail) → List (Pass Mail) → Type 0
KeepsOthers n old new =
    (m : ℕ) (v : View Mail) → (m ≡ n → ⊥) → IsViewAt m new v → IsViewAt m old v

-- ---- worlds

-- what waits in a world
abbrev pub waits_in : World → Waiting
waits_in w f =
    weigh_tasks f 0 w.tasks
    + (weigh_ackers f 0 w.ackers
    + (weigh (λ v. f (of_verdict v)) w.verdicts + weigh_parcels f w.orders))

abbrev pub stand_in : TaskSide → Stand
stand_in side = side.stand

abbrev pub entries_in : AckerSide → List (Held (List AckMsg))
entries_in side = side.entries

abbrev pub counted_in : AckerSide → ℕ
counted_in side = side.counted

-- tasks, ackers and the coordinator are as they were, wherever packets wait
pub record IsRearranged (old new : World) : Type 0 where
  pub stands : map stand_in new.tasks ≡ map stand_in old.tasks
  pub entries : map entries_in new.ackers ≡ map entries_in old.ackers
  pub counts : map counted_in new.ackers ≡ map counted_in old.ackers
  pub spout : new.spout ≡ old.spout
  pub desk : new.desk ≡ old.desk
  pub tick : new.tick ≡ old.tick
  pub unheard : new.unheard ≡ old.unheard
  pub shut : new.shut ≡ old.shut
  pub fates : new.fates ≡ old.fates

-- Packets went from where they waited to where they wait: each waits once, in a box, in the world,
-- or beside both, and what is in inboxes came there from a box.
pub record Carries (old new : World) (was is : List (Pass Mail)) (left now_left : Waiting)
    : Type 0 where
  pub arranged : IsRearranged old new
  pub waits : (f : Packet → ℕ)
      → held_in is f + (now_left f + waits_in new f) ≡ held_in was f + (left f + waits_in old f)
  pub through : (f : Packet → ℕ)
      → taken_in was f + weigh_inboxes f new ≡ taken_in is f + weigh_inboxes f old
  pub more : (f : Packet → ℕ) → taken_in was f ≤ taken_in is f

module _ {I : Type 0} {g : Ghosts I} where
  -- an engine's packets were carried, for which no source gave a word
  pub record EngineCarries (old new : Engine I g) (was is : List (Pass Mail))
      (left now_left : Waiting) : Type 0 where
    pub still : IsStill old new
    pub sources : sources new ≡ sources old
    pub carries : Carries (shape old) (shape new) was is left now_left

-- no packet is left
abbrev pub nothing_left : Waiting
nothing_left f = 0

-- ---- mail and outboxes

-- mail whose parcels name tasks that take them, and ackers that are there
abbrev pub FitsMail : Topology → Mail → Type 0
FitsMail t (mail.Run parcels) = AllByRecursion (FitsParcel t) parcels
FitsMail t (mail.Verdict v) = Unit {0}

-- nothing is to be handed over in a world
pub record IsSwept (w : World) : Type 0 where
  pub tasks : AllByRecursion (λ (side : TaskSide). side.outbox ≡ []) w.tasks
  pub ackers : AllByRecursion (λ (side : AckerSide). side.outbox ≡ []) w.ackers
  pub orders : w.orders ≡ []

-- outboxes that were empty are
pub record StaysSwept (old new : World) : Type 0 where
  pub tasks : AllByRecursion (λ (side : TaskSide). side.outbox ≡ []) old.tasks
      → AllByRecursion (λ (side : TaskSide). side.outbox ≡ []) new.tasks
  pub ackers : AllByRecursion (λ (side : AckerSide). side.outbox ≡ []) old.ackers
      → AllByRecursion (λ (side : AckerSide). side.outbox ≡ []) new.ackers
  pub orders : old.orders ≡ [] → new.orders ≡ []

-- what mail brought came to inboxes of a world
pub record Brings (m : Mail) (old new : World) : Type 0 where
  pub arranged : IsRearranged old new
  pub waits : (f : Packet → ℕ) → waits_in new f ≡ waits_in old f + weigh_mail f m
  pub inboxes : (f : Packet → ℕ) → weigh_inboxes f new ≡ weigh_inboxes f old + weigh_mail f m
  pub swept : StaysSwept old new

-- what these verdicts weigh
abbrev pub weigh_verdicts : List Verdict → Waiting
weigh_verdicts verdicts f = weigh (λ (v : Verdict). f (of_verdict v)) verdicts

-- what these parcels weigh
abbrev pub weigh_all : List Parcel → Waiting
weigh_all parcels f = weigh_parcels f parcels
