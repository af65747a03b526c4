-- What an acker does over boxes. This project's own.
use Rattle.std.specs.Prelude.{◌≡◌, ◌<◌, ◌≤◌, ◌⊎◌, ℕ, ◌+◌, ◌-◌, Bool, true, false, min, List, [], Option, None, Some, fold, length, replicate}
use Rattle.std.specs.List.{AllByRecursion}
use Rattle.std.specs.Option.{option_to_list}
use Rattle.event_worlds.specs.acker_core.declared.verdict.Verdict.{Verdict}
use Rattle.event_worlds.specs.acker_core.Entries.{Met, after, tick}
use Rattle.event_worlds.specs.acker_core.Traces.{ticks_in}
use Rattle.event_worlds.specs.bolt_ops.RowOp.{Custom}
use Rattle.box_rows.specs.declared.mail.Mail.{Mail}
use Rattle.box_rows.specs.declared.mail.Mail.TheVariants as mail
use Rattle.box_rows.specs.Mails.{last_box}
use Rattle.box_rows.specs.Rows.{CouldBeEmpty, CouldBeFull, IsSameRow, sent_in, taken_in}
use Rattle.event_worlds.specs.counted_items.Weights.{weigh}
use Rattle.task_queues.specs.declared.pass.Pass.{Pass}
use Rattle.event_worlds.specs.topology_plan.Topology.{Topology, tasks_in_all}
use Rattle.event_worlds.specs.tree_model.declared.messages.AckMsg.{AckMsg}
use Rattle.event_worlds.specs.tree_model.declared.messages.Parcel.{Parcel}
use Rattle.event_worlds.specs.tree_model.declared.messages.Parcel.TheVariants.{ToAcker}
use Rattle.event_worlds.specs.tree_model.Lists.{root_of}
use Rattle.event_worlds.specs.tuple_account.Histories.{History, Packet, Receipt, acker_of, of_parcel, of_verdict, weigh_parcels}
use Rattle.event_worlds.specs.tuple_account.Moves.{Station}
use Rattle.event_worlds.specs.tuple_account.Parts.{weigh_entries}
use Rattle.worker_pool.specs.declared.acker.AckerDesk.{AckerDesk}
use Rattle.worker_pool.specs.Says.{Says}
use Rattle.worker_pool.specs.Works.{IsInside, Uses, Works}
use Rattle.world_progress.specs.Young.{AreYoung}

abbrev pub IsVerdict : Mail → Type 0
IsVerdict (mail.Run parcels) = ⊥
IsVerdict (mail.Verdict v) = Unit {0}

-- what an outbox of a verdict weighs
abbrev pub weigh_verdict : (Packet → ℕ) → Option Verdict → ℕ
weigh_verdict f outbox = weigh (λ (v : Verdict). f (of_verdict v)) (option_to_list outbox)

-- what the messages that are left of a message weigh
abbrev pub weigh_messages : (Packet → ℕ) → ℕ → List AckMsg → ℕ
weigh_messages f n inbox = weigh (λ (m : AckMsg). f (of_parcel (ToAcker n m))) inbox

-- the desk is that of an acker of the topology, with its buckets
pub record IsAcker (t : Topology) (d : AckerDesk) : Type 0 where
  pub there : d.number < t.ackers
  pub buckets : d.acker.buckets ≡ t.buckets

-- what a desk holds
abbrev pub acker_station : AckerDesk → Station
acker_station d = record {
  waiting = λ f. weigh_messages f d.number d.inbox.items + weigh_verdict f d.outbox;
  kept = λ g. weigh_entries g d.acker.held;
  given = λ s j. 0;
}

-- what an acker took from its box, and has not met
abbrev pub acker_inbox : AckerDesk → (Packet → ℕ) → ℕ
acker_inbox d f = weigh_messages f d.number d.inbox.items

-- An acker went through a trace, in which it rotated for each tick that it counted, or as often as
-- it has buckets, and it did not count back.
pub record Ages (old new : AckerDesk) : Type 0 where
  pub number : new.number ≡ old.number
  pub buckets : new.acker.buckets ≡ old.acker.buckets
  pub trace : List Met
  pub entries : new.acker.held ≡ fold (after old.acker.buckets) old.acker.held trace
  pub rotates : min old.acker.buckets (new.counted - old.counted) ≤ ticks_in trace
  pub on : old.counted ≤ new.counted

-- It rotated for each tick since the last time, or as often as it has buckets, and never more often
-- than there were ticks. All else stayed.
pub record CountsUp (old new : AckerDesk) : Type 0 where
  pub times : ℕ
  pub enough : min old.acker.buckets (new.counted - old.counted) ≤ times
  pub most : times ≤ new.counted - old.counted
  pub on : old.counted ≤ new.counted
  pub entries : new.acker.held
      ≡ fold (after old.acker.buckets) old.acker.held (replicate times tick)
  pub buckets : new.acker.buckets ≡ old.acker.buckets
  pub number : new.number ≡ old.number
  pub inbox : new.inbox ≡ old.inbox
  pub outbox : new.outbox ≡ old.outbox

-- a verdict was handed over, or came back
pub record HandsVerdict (t : Topology) (verdict : Verdict) (did : Bool) (old new : AckerDesk)
    (was is : List (Pass Mail)) : Type 0 where
  pub packets : (f : Packet → ℕ)
      → weigh_verdict f new.outbox + sent_in is f ≡ f (of_verdict verdict) + sent_in was f
  pub taken : (f : Packet → ℕ) → taken_in is f ≡ taken_in was f
  pub went : did ≡ true → new.outbox ≡ None
  pub back : did ≡ false
      → (new.outbox ≡ Some verdict) × IsSameRow was is × CouldBeFull (last_box t) was
  pub acker : new.acker ≡ old.acker
  pub number : new.number ≡ old.number
  pub inbox : new.inbox ≡ old.inbox
  pub counted : new.counted ≡ old.counted

-- how many messages of a run are left
abbrev pub acker_left : AckerDesk → ℕ
acker_left d = length d.inbox.items

-- An acker can do nothing: the coordinator's box could be full, or it has nothing, and its own box
-- could be empty.
pub record IsAckerHeld (t : Topology) (d : AckerDesk) (row : List (Pass Mail)) : Type 0 where
  pub is : ((v : Verdict) × (d.outbox ≡ Some v) × CouldBeFull (last_box t) row)
      ⊎ ((d.outbox ≡ None) × (d.inbox.items ≡ [])
      × CouldBeEmpty (tasks_in_all t + d.number) row)

abbrev pub AckerSays : Topology → Bool → AckerDesk → AckerDesk → List (Pass Mail)
    → List (Pass Mail) → Type 0
AckerSays t did old new was is = Says acker_left (IsAckerHeld t) did old new was is

-- the messages of a run came to the inbox, and all else stayed
pub record ReceivesNotes (run : List Parcel) (old new : AckerDesk) : Type 0 where
  pub inbox : (f : Packet → ℕ)
      → weigh_messages f old.number new.inbox.items
      ≡ weigh_messages f old.number old.inbox.items + weigh_parcels f run
  pub acker : new.acker ≡ old.acker
  pub number : new.number ≡ old.number
  pub outbox : new.outbox ≡ old.outbox
  pub counted : new.counted ≡ old.counted

-- What happened at ackers, whatever the operations. No tuple was executed.
pub record Meets (t : Topology) (a : Station) (was : List (Pass Mail)) (b : Station)
    (is : List (Pass Mail)) : Type 0 where
  pub history : History
  pub works : (custom : Custom) → Works t custom a was history b is
  pub inside : IsInside history
  pub none_run : history.runs ≡ []

-- each message that was met is for the acker that met it
abbrev pub AreRouted : Topology → History → Type 0
AreRouted t h = AllByRecursion (λ (r : Receipt). acker_of t (root_of r.message) ≡ r.acker) h.met

-- an acker's entries are at the acker of their roots, one a root, and no older than what it counted
abbrev pub HasYoung : Topology → AckerDesk → Type 0
HasYoung t d = AreYoung t d.number d.counted d.acker.held

-- an acker has counted fewer ticks than there are buckets
abbrev pub CountsFew : Topology → AckerDesk → Type 0
CountsFew t d = d.counted < t.buckets

-- While an acker has counted fewer ticks than there are buckets, young entries stay young, and none
-- is dropped.
abbrev pub Lasts : Topology → History → AckerDesk → AckerDesk → Type 0
Lasts t h old new =
    AreRouted t h → HasYoung t old → CountsFew t new → HasYoung t new × (h.dropped ≡ [])

-- An acker did what it did. It met what came from its box.
pub record AckerDid (t : Topology) (old new : AckerDesk) (was is : List (Pass Mail)) : Type 0 where
  pub ages : Ages old new
  pub meets : Meets t (acker_station old) was (acker_station new) is
  pub uses : Uses (acker_inbox old) was meets.history (acker_inbox new) is
  pub lasts : Lasts t meets.history old new
