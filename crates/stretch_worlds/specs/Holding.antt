-- Moments at which nobody can do anything, over boxes that take so many at most. This project's
-- own.
use Rattle.std.specs.Prelude.{◌≡◌, ◌≢◌, ◌<◌, ◌⊎◌, ℕ, ◌==◌, if◌then◌else◌, []}
use Rattle.event_worlds.specs.Worlds.{World, acker_at, task_at}
use Rattle.event_worlds.specs.topology_plan.Topology.{Topology, component_of, tasks_in_all}
use Rattle.event_worlds.specs.tree_model.declared.messages.Parcel.{Parcel}
use Rattle.event_worlds.specs.tree_model.declared.messages.Parcel.TheVariants.{ToTask, ToAcker}
use Rattle.event_worlds.specs.tuple_account.Histories.{Packet, of_parcel, of_verdict}

-- 1 at each packet for the box of a task, and 0 at all others
abbrev pub for_task : ℕ → Packet → ℕ
for_task n (of_parcel (ToTask m tuple)) = if m == n then 1 else 0
for_task n (of_parcel (ToAcker a m)) = 0
for_task n (of_verdict v) = 0

-- the same for the box of an acker
abbrev pub for_acker : ℕ → Packet → ℕ
for_acker n (of_parcel (ToTask m tuple)) = 0
for_acker n (of_parcel (ToAcker a m)) = if a == n then 1 else 0
for_acker n (of_verdict v) = 0

-- and for the coordinator's
abbrev pub for_coordinator : Packet → ℕ
for_coordinator (of_parcel parcel) = 0
for_coordinator (of_verdict v) = 1

-- a task's parcel goes to a task of a greater rank, or to an acker
abbrev pub GoesOn : Topology → (ℕ → ℕ) → ℕ → Parcel → Type 0
GoesOn t rank n (ToTask m tuple) =
    (m < tasks_in_all t) × (rank (component_of t n) < rank (component_of t m))
GoesOn t rank n (ToAcker a m) = a < t.ackers

-- where boxes hold packets of this weight, that of a parcel holds something, as a full one does
abbrev pub IsBlocked : ((Packet → ℕ) → ℕ) → Parcel → Type 0
IsBlocked held (ToTask m tuple) = held (for_task m) ≢ 0
IsBlocked held (ToAcker a m) = held (for_acker a) ≢ 0

-- A task has nothing to do, or a parcel of its came back.
pub record IsTaskHeld (t : Topology) (rank : ℕ → ℕ) (held : (Packet → ℕ) → ℕ) (w : World) (n : ℕ)
    : Type 0 where
  pub is : (((task_at t n w).outbox ≡ []) × (held (for_task n) ≡ 0))
      ⊎ ((parcel : Parcel) × GoesOn t rank n parcel × IsBlocked held parcel)

-- An acker has nothing to do, or its verdict came back.
pub record IsAckerHeld (held : (Packet → ℕ) → ℕ) (w : World) (n : ℕ) : Type 0 where
  pub is : (((acker_at n w).outbox ≡ []) × (held (for_acker n) ≡ 0)) ⊎ (held for_coordinator ≢ 0)

-- Nobody did anything, and no verdict waits.
pub record IsHeldUp (t : Topology) (rank : ℕ → ℕ) (held : (Packet → ℕ) → ℕ) (w : World)
    : Type 0 where
  pub tasks : (n : ℕ) → n < tasks_in_all t → IsTaskHeld t rank held w n
  pub ackers : (n : ℕ) → n < t.ackers → IsAckerHeld held w n
  pub verdicts : held for_coordinator ≡ 0
