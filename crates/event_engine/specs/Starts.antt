-- How an engine begins. This project's own.
use Rattle.std.specs.Prelude.{◌≡◌, ℕ, List, [], length, map}
use Rattle.std.specs.List.{range_with_len}
use Rattle.event_worlds.specs.commit_order.Orders.{Stand}
use Rattle.event_engine.specs.Engines.{Gives, HaveTold, shape}
use Rattle.event_engine.specs.Seats.{AllFrom, IsSeatOf, source_in, task_side}
use Rattle.event_engine.specs.declared.engine.Engine.{Engine}
use Rattle.event_engine.specs.declared.task.TaskSeat.{TaskSeat}
use Rattle.event_worlds.specs.Worlds.{first_counts, first_world}
use Rattle.event_worlds.specs.groupings.Routing.{lanes_of}
use Rattle.event_worlds.specs.storm_ids.declared.ids.Ids.{Ghosts}
use Rattle.event_worlds.specs.taken_records.Cuts.{Cut}
use Rattle.event_worlds.specs.topology_plan.declared.parts.Origin.{Origin}
use Rattle.event_worlds.specs.topology_plan.declared.parts.Origin.TheVariants as origin
use Rattle.event_worlds.specs.topology_plan.Topology.{Topology, component_of, subs_of}

-- where the rows of a source go, with these start words
abbrev pub started_stand : Topology → Origin → List ℕ → Stand
started_stand t from starts = record {
  outlet = record { topology = t; from = from; lanes = lanes_of t (subs_of t from) starts };
  given = length starts;
}

-- A source of a number gave one start word for each subscription of a source of rows: its first
-- ones, for words that are told.
pub record IsFirstSource {I : Type 0} (told : (ℕ → ℕ → ℕ) → Type 0)
    (tells : I → (ℕ → ℕ) → ℕ → Type 0) (t : Topology) (from : Origin) (n : ℕ) (source : I)
    (stand : Stand) : Type 0 where
  pub starts : List ℕ
  pub enough : length starts ≡ length (subs_of t from)
  pub stands : stand ≡ started_stand t from starts
  pub first : (words : ℕ → ℕ → ℕ) → told words
      → starts ≡ map (words n) (range_with_len 0 (length starts))
  pub goes_on : (words : ℕ → ℕ → ℕ) → told words → tells source (words n) (length starts)

module _ {I : Type 0} {g : Ghosts I} where
  -- the seat of a task with nothing in its boxes
  pub record IsFirstSeat (told : (ℕ → ℕ → ℕ) → Type 0) (tells : I → (ℕ → ℕ) → ℕ → Type 0)
      (t : Topology) (n : ℕ) (s : TaskSeat I g) : Type 0 where
    pub seat : IsSeatOf t n s
    pub inbox : s.inbox.items ≡ []
    pub outbox : s.outbox.items ≡ []
    pub source : IsFirstSource told tells t (origin.Component (component_of t n)) n (source_in s)
        (task_side s).stand

  -- the seats of all tasks
  pub record AreFirstSeats (told : (ℕ → ℕ → ℕ) → Type 0) (tells : I → (ℕ → ℕ) → ℕ → Type 0)
      (t : Topology) (count : ℕ) (seats : List (TaskSeat I g)) : Type 0 where
    pub each : AllFrom (IsFirstSeat told tells t) 0 seats
    pub many : length seats ≡ count

  -- An engine is the first world, by any words that begin with those that its sources gave. Of
  -- words that are told these are the first.
  pub record IsStarted (told : (ℕ → ℕ → ℕ) → Type 0) (tells : I → (ℕ → ℕ) → ℕ → Type 0)
      (t : Topology) (cut : Cut) (e : Engine I g) : Type 0 where
    pub given : ℕ → List ℕ
    pub counted : (words : ℕ → ℕ → ℕ) (s : ℕ) → length (given s) ≡ first_counts t words s
    pub first : (words : ℕ → ℕ → ℕ) → Gives words (λ s. 0) given
        → shape e ≡ first_world t cut words
    pub gives : (words : ℕ → ℕ → ℕ) → told words → Gives words (λ s. 0) given
    pub goes_on : (words : ℕ → ℕ → ℕ) → told words
        → HaveTold tells words (λ s. length (given s)) e
