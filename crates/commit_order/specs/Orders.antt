-- What a turn orders: the first tuples and the init of each attempt that begins, and a commit. This
-- project's own.
use Rattle.std.specs.Prelude.{◌≡◌, ℕ, ◌++◌, Bool, true, false, List, [], ◌∷◌, length, Option, None, Some}
use Rattle.std.specs.List.{flat_map}
use Rattle.attempt_fates.specs.declared.fates.Attempt.{Attempt}
use Rattle.commit_order.specs.Offices.{AddsSome, IsCommitOf, Office}
use Rattle.commit_order.specs.declared.coordinator.Coordinator.{Coordinator}
use Rattle.commit_order.specs.declared.coordinator.Orders.{Orders}
use Rattle.commit_order.specs.declared.stop.Stop.{Stop}
use Rattle.commit_order.specs.declared.stop.Stop.TheVariants.{Exhausted, Memory}
use Rattle.commit_turns.specs.Account.{rows_at}
use Rattle.commit_turns.specs.declared.wait.Wait.{Wait}
use Rattle.commit_turns.specs.Desks.{Desk, Progress, first_desk}
use Rattle.commit_turns.specs.Turns.{Turned, filled}
use Rattle.output_collector.specs.Collectors.{IsStarted, given_by, ids_in, outlet_of, source_of}
use Rattle.output_collector.specs.Draws.{Draws, given_after}
use Rattle.output_collector.specs.Outlets.{Outlet, after_rows, tasks_for}
use Rattle.output_collector.specs.declared.collector.Collector.{Collector}
use Rattle.tuple_account.specs.topology_plan.Topology.{Topology, tasks_in_all}
use Rattle.tuple_account.specs.topology_plan.declared.parts.Origin.TheVariants as origin
use Rattle.tuple_account.specs.tree_model.Trees.{kids}
use Rattle.tuple_account.specs.tree_model.declared.messages.Parcel.{Parcel}
use Rattle.taken_records.specs.Cuts.{Cut}
use Rattle.tuple_account.specs.Histories.{Opening, opening_parcels}

-- an attempt begins with its records and these ids, the first of which is at this place
abbrev pub opening_of : Cut → Outlet → ℕ → ℕ → Wait → List ℕ → Opening
opening_of cut outlet source given w ids = record {
  begun = record {
    root = w.root;
    rows = rows_at cut w.spans;
    ids = ids;
    source = source;
    at = given;
  };
  targets = tasks_for outlet.lanes (rows_at cut w.spans);
}

-- what the openings are made with: where rows go, and how many words were given
pub record Stand : Type 0 where
  pub outlet : Outlet
  pub given : ℕ

abbrev pub stand_of : {I : Type 0} → Collector I → Stand
stand_of c = record { outlet = outlet_of c; given = given_by c }

abbrev pub stand_after : Opening → Stand → Stand
stand_after o s = record {
  outlet = after_rows o.begun.rows s.outlet;
  given = given_after s.given (length o.begun.ids);
}

-- attempts begin one after another, each with an id for each of its first tuples
abbrev pub OpenFrom : Cut → ℕ → Stand → List Wait → List Opening → Stand → Type 0
OpenFrom cut source s [] [] end = end ≡ s
OpenFrom cut source s [] (o ∷ openings) end = ⊥
OpenFrom cut source s (w ∷ begun) [] end = ⊥
OpenFrom cut source s (w ∷ begun) (o ∷ openings) end =
    (o ≡ opening_of cut s.outlet source s.given w o.begun.ids)
    × (length o.begun.ids ≡ length (kids s.outlet.topology s.outlet.from o.begun.rows))
    × OpenFrom cut source (stand_after o s) begun openings end

abbrev pub ids_drawn : List Opening → List ℕ
ids_drawn openings = flat_map (λ (o : Opening). o.begun.ids) openings

-- these attempts begin with the next ids, and these are their parcels
pub record Begins {I : Type 0} (tells : I → (ℕ → ℕ) → ℕ → Type 0) (cut : Cut)
    (old new : Collector I) (begun : List Wait) (parcels : List Parcel) : Type 0 where
  pub openings : List Opening
  pub opened : OpenFrom cut (source_of old) (stand_of old) begun openings (stand_of new)
  pub drawn : Draws tells (ids_in old) (ids_drawn openings) (ids_in new)
  pub sent : parcels ≡ flat_map (opening_parcels (outlet_of old).topology) openings
  pub source : source_of new ≡ source_of old

-- one more attempt begins, and its parcels are added
pub record AddsOpening {I : Type 0} (tells : I → (ℕ → ℕ) → ℕ → Type 0) (cut : Cut) (w : Wait)
    (old new : Collector I) (told adds : List Parcel) : Type 0 where
  pub opening : Opening
  pub opened : OpenFrom cut (source_of old) (stand_of old) (w ∷ []) (opening ∷ [])
      (stand_of new)
  pub drawn : Draws tells (ids_in old) opening.begun.ids (ids_in new)
  pub sent : adds ≡ told ++ opening_parcels (outlet_of old).topology opening
  pub source : source_of new ≡ source_of old

-- ---- coordinators

-- want of memory, or the transaction whose attempts have run out
abbrev pub stop_by : Bool → Option ℕ → Option Stop
stop_by true exhausted = Some Memory
stop_by false None = None
stop_by false (Some txid) = Some (Exhausted txid)

module _ {I : Type 0} where
  abbrev pub office_of : Coordinator I → Office
  office_of c = c.office

  abbrev pub collector_of : Coordinator I → Collector I
  collector_of c = c.collector

  -- whether a call wanted memory
  abbrev pub wanted_memory : Coordinator I → Bool
  wanted_memory c = c.wanted_memory

  abbrev pub desk_of : Coordinator I → Desk
  desk_of c = (office_of c).desk

  abbrev pub plan_of : Coordinator I → Topology
  plan_of c = (office_of c).topology

  abbrev pub cut_of : Coordinator I → Cut
  cut_of c = (office_of c).cut

  -- what it emits are the records of its plan's spout, with ids of the coordinator's source
  pub record IsOwn (c : Coordinator I) : Type 0 where
    pub topology : (outlet_of (collector_of c)).topology ≡ plan_of c
    pub from : (outlet_of (collector_of c)).from ≡ origin.Spout
    pub source : source_of (collector_of c) ≡ tasks_in_all (plan_of c)

  -- the same, as long as no call wanted memory
  abbrev pub StaysOwn : Coordinator I → Type 0
  StaysOwn c = wanted_memory c ≡ false → IsOwn c

  -- of a plan and these offers, with nothing begun, and its collector drew the start words
  pub record IsFirst (tells : I → (ℕ → ℕ) → ℕ → Type 0) (t : Topology) (cut : Cut) (ids : I)
      (made : Coordinator I) : Type 0 where
    pub office : office_of made ≡ record { topology = t; cut = cut; desk = first_desk cut }
    pub collector : IsStarted tells t origin.Spout (tasks_in_all t) ids (collector_of made)
    pub has_memory : wanted_memory made ≡ false

  -- the office with another desk
  abbrev pub comes_to : Desk → Coordinator I → Office
  comes_to d c = record (office_of c) { desk = d }

  -- a turn came to this, and ordered this
  pub record TurnsTo (tells : I → (ℕ → ℕ) → ℕ → Type 0) (t : Topology) (cut : Cut)
      (to : Turned t cut) (old new : Coordinator I)
      (orders : Orders) : Type 0 where
    pub goes_on : to.desk.exhausted ≡ None
    pub office : office_of new ≡ comes_to to.desk old
    pub commit : IsCommitOf to.commit orders.commit
    pub begun : Begins tells (cut_of old) (collector_of old) (collector_of new) to.begun
        orders.parcels
    pub has_memory : wanted_memory new ≡ false

  -- a turn or an outcome ended with the last attempt of a transaction
  pub record StopsAt (txid : ℕ) (d : Desk) (ended : List Attempt) (old new : Coordinator I)
      (told tells : List Attempt) : Type 0 where
    pub exhausted : d.exhausted ≡ Some txid
    pub office : office_of new ≡ comes_to d old
    pub collector : collector_of new ≡ collector_of old
    pub fates : tells ≡ told ++ ended
    pub has_memory : wanted_memory new ≡ false

  -- memory was wanted: of the attempts that ended some were added, the first first
  pub record RunsShort (ended : List Attempt) (new : Coordinator I) (told tells : List Attempt)
      : Type 0 where
    pub some : AddsSome ended told tells
    pub stopped : wanted_memory new ≡ true

  -- why the coordinator stopped, if it did
  abbrev pub stop_of : Coordinator I → Option Stop
  stop_of c = stop_by (wanted_memory c) (desk_of c).exhausted

  -- an outcome came to this
  pub record DecidesTo (to : Progress) (old new : Coordinator I) (told tells : List Attempt)
      : Type 0 where
    pub goes_on : to.desk.exhausted ≡ None
    pub office : office_of new ≡ comes_to to.desk old
    pub collector : collector_of new ≡ collector_of old
    pub fates : tells ≡ told ++ to.ended
    pub has_memory : wanted_memory new ≡ false

  -- Attempts begin so far, and in so many places at most more begin: all of them are what began,
  -- and then the rest.
  pub record Fills (tells : I → (ℕ → ℕ) → ℕ → Type 0) (shut places left : ℕ)
      (old new : Coordinator I) (parcels : List Parcel) : Type 0 where
    pub so_far : List Wait
    pub own : IsOwn new
    pub office : office_of new ≡ comes_to (desk_of new) old
    pub begun : Begins tells (cut_of old) (collector_of old) (collector_of new) so_far
        parcels
    pub has_memory : wanted_memory new ≡ wanted_memory old
    pub desk : (filled (plan_of old) (cut_of old) shut places (desk_of old)).desk
        ≡ (filled (plan_of old) (cut_of old) shut left (desk_of new)).desk
    pub all : (filled (plan_of old) (cut_of old) shut places (desk_of old)).begun
        ≡ so_far ++ (filled (plan_of old) (cut_of old) shut left (desk_of new)).begun

  -- a turn may come: no ordered commit is out, or the coordinator stopped
  abbrev pub MayTurn : Coordinator I → Type 0
  MayTurn c = stop_of c ≡ None → (desk_of c).out ≡ false

  -- an outcome may come: an ordered commit is out, or the coordinator stopped
  abbrev pub MayDecide : Coordinator I → Type 0
  MayDecide c = stop_of c ≡ None → (desk_of c).out ≡ true
