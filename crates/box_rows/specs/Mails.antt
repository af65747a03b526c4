-- What lies in a box, and what is true of it. This project's own.
use Rattle.std.specs.Prelude.{◌≡◌, ℕ, ◌+◌, ◌≤◌, List, length}
use Rattle.std.specs.List.{AllByRecursion}
use Rattle.box_rows.specs.declared.mail.Mail.{Mail}
use Rattle.box_rows.specs.declared.mail.Mail.TheVariants as mail
use Rattle.event_worlds.specs.Orderly.{FitsParcel}
use Rattle.event_worlds.specs.topology_plan.Topology.{Topology, tasks_in_all}
use Rattle.event_worlds.specs.tree_model.declared.messages.Parcel.{Parcel}
use Rattle.event_worlds.specs.tree_model.declared.messages.Parcel.TheVariants.{ToTask, ToAcker}
use Rattle.event_worlds.specs.tuple_account.Histories.{Packet, of_verdict, weigh_parcels}

-- the number of the box that a parcel goes to: those of the tasks come first, then the ackers'
abbrev pub box_of : Topology → Parcel → ℕ
box_of t (ToTask n tuple) = n
box_of t (ToAcker n m) = tasks_in_all t + n

-- the coordinator's box is the last one
abbrev pub last_box : Topology → ℕ
last_box t = tasks_in_all t + t.ackers

-- a parcel fits the plan, and goes to the box of this number
abbrev pub IsTrueParcel : Topology → ℕ → Parcel → Type 0
IsTrueParcel t owner p = FitsParcel t p × (owner ≡ box_of t p)

-- how many parcels a run has at most
abbrev pub most_in_run : ℕ
most_in_run = 64

-- a run of parcels, all for one box
pub record IsRunFor (t : Topology) (owner : ℕ) (parcels : List Parcel) : Type 0 where
  pub some : 1 ≤ length parcels
  pub few : length parcels ≤ most_in_run
  pub each : AllByRecursion (IsTrueParcel t owner) parcels

-- mail fits the plan, and lies in the box that it goes to
abbrev pub IsTrueMail : Topology → ℕ → Mail → Type 0
IsTrueMail t owner (mail.Run parcels) = IsRunFor t owner parcels
IsTrueMail t owner (mail.Verdict v) = owner ≡ last_box t

-- what mail weighs: a run weighs what its parcels do
abbrev pub weigh_mail : (Packet → ℕ) → Mail → ℕ
weigh_mail f (mail.Run parcels) = weigh_parcels f parcels
weigh_mail f (mail.Verdict v) = f (of_verdict v)
