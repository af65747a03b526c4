-- An engine as a world, and what its events do. This project's own.
use Rattle.std.specs.Prelude.{◌≡◌, ◌<◌, ◌≤◌, ◌+◌, ◌-◌, ◌^◌, ℕ, Bool, true, false, Option, None, Some, List, [], ◌∷◌, ◌++◌, map, length, slice_get, slice_set}
use Rattle.std.specs.List.{AllByRecursion, range_with_len}
use Rattle.event_worlds.specs.acker_core.declared.verdict.Verdict.{Verdict}
use Rattle.event_worlds.specs.attempt_fates.declared.fates.Attempt.{Attempt}
use Rattle.event_worlds.specs.bolt_ops.RowOp.{Custom}
use Rattle.event_worlds.specs.commit_order.Offices.{AddsSome, IsCommitOf}
use Rattle.event_worlds.specs.commit_order.Orders.{IsOwn, collector_of, cut_of, desk_of, plan_of, stand_of, wanted_memory}
use Rattle.event_worlds.specs.commit_turns.declared.wait.Wait.{Wait}
use Rattle.event_worlds.specs.commit_turns.Kept.{IsKept}
use Rattle.event_worlds.specs.commit_turns.Turns.{decided, next_to_commit, turned}
use Rattle.event_engine.specs.Seats.{AreSeats, HasBuckets, acker_side, source_in, task_side}
use Rattle.event_engine.specs.declared.engine.Engine.{Engine}
use Rattle.event_worlds.specs.Accounted.{IsInput}
use Rattle.event_worlds.specs.Orderly.{IsOrderly}
use Rattle.event_worlds.specs.Worlds.{Step, World, is_over, outcomes_of, run, turn_needs, turn_step}
use Rattle.event_worlds.specs.output_collector.Collectors.{ids_in}
use Rattle.event_worlds.specs.output_collector.Draws.{Draws}
use Rattle.event_worlds.specs.state_parts.declared.answer.Commit.{Commit}
use Rattle.event_worlds.specs.state_parts.declared.answer.CommitOutcome.{CommitOutcome}
use Rattle.event_worlds.specs.storm_ids.declared.ids.Ids.{Ghosts}
use Rattle.event_worlds.specs.topology_plan.Topology.{Topology, tasks_in_all}
use Rattle.event_worlds.specs.tree_model.declared.messages.Parcel.{Parcel}
use Rattle.event_worlds.specs.tree_model.declared.messages.Parcel.TheVariants.{ToTask, ToAcker}
use Rattle.event_worlds.specs.taken_records.Cuts.{Cut}

-- source n gave these ids, and the others none
pub record DrawsAt {S : Type 0} (tells : S → (ℕ → ℕ) → ℕ → Type 0) (n : ℕ) (ids : List ℕ)
    (old new : List S) : Type 0 where
  pub before : S
  pub after : S
  pub at : slice_get old n ≡ Some before
  pub draws : Draws tells before ids after
  pub others : new ≡ slice_set old n after

-- these words begin with what was given, after so many
abbrev pub Gives : (ℕ → ℕ → ℕ) → (ℕ → ℕ) → (ℕ → List ℕ) → Type 0
Gives words counts given =
    (s : ℕ) → map (words s) (range_with_len (counts s) (length (given s))) ≡ given s

-- these outcomes begin with those of the fates
pub record HasOutcomes (outcomes : List CommitOutcome) (fates : List Attempt) : Type 0 where
  pub rest : List CommitOutcome
  pub first : outcomes ≡ outcomes_of fates ++ rest

-- a parcel names a task or an acker that is there
abbrev pub IsThere : ℕ → ℕ → Parcel → Type 0
IsThere tasks ackers (ToTask n tuple) = n < tasks
IsThere tasks ackers (ToAcker n m) = n < ackers

module _ {I : Type 0} {g : Ghosts I} where
  abbrev pub shape : Engine I g → World
  shape e = record {
    tasks = map task_side e.tasks.items;
    ackers = map acker_side e.ackers.items;
    spout = stand_of (collector_of e.coordinator);
    verdicts = e.verdicts.items;
    orders = e.orders.items;
    desk = desk_of e.coordinator;
    tick = e.tick;
    unheard = e.unheard;
    shut = e.shut;
    fates = e.fates;
  }

  -- the sources of ids: those of the tasks, and then the coordinator's
  abbrev pub sources : Engine I g → List I
  sources e = map source_in e.tasks.items ++ ids_in (collector_of e.coordinator) ∷ []

  abbrev pub topology_in : Engine I g → Topology
  topology_in e = plan_of e.coordinator

  abbrev pub cut_in : Engine I g → Cut
  cut_in e = cut_of e.coordinator

  -- whether no record is left uncommitted, or as many attempts of a transaction aborted as a plan
  -- allows
  abbrev pub has_ended : Engine I g → Bool
  has_ended e = is_over (topology_in e) (cut_in e) (shape e)

  -- each seat is that of its task, with its own number, and each acker has its buckets
  pub record IsSeated (t : Topology) (cut : Cut) (e : Engine I g) : Type 0 where
    pub plan : e.plan.now ≡ t
    pub tasks : AreSeats t 0 e.tasks.items
    pub ackers : AllByRecursion (HasBuckets t.buckets) e.ackers.items
    pub own : IsOwn e.coordinator
    pub of_topology : topology_in e ≡ t
    pub of_cut : cut_in e ≡ cut

  -- an event may come
  pub record IsReady (t : Topology) (cut : Cut) (e : Engine I g) : Type 0 where
    pub input : IsInput t cut
    pub seated : IsSeated t cut e
    pub orderly : IsOrderly t (shape e)
    pub kept : IsKept t cut (desk_of e.coordinator) e.fates
    pub ticks : (desk_of e.coordinator).tick ≤ 2 ^ 64 - 1
    pub has_memory : wanted_memory e.coordinator ≡ false

  -- a turn of the coordinator may come: no ordered commit is out, or all is over
  abbrev pub IsIdle : Engine I g → Type 0
  IsIdle e = has_ended e ≡ false → (desk_of e.coordinator).out ≡ false

  -- the coordinator has ordered the commit of this attempt
  pub record HasOrdered (w : Wait) (e : Engine I g) : Type 0 where
    pub goes_on : has_ended e ≡ false
    pub out : (desk_of e.coordinator).out ≡ true
    pub next : next_to_commit (topology_in e) (cut_in e) (desk_of e.coordinator) ≡ Some w

  -- an outcome may come
  abbrev pub MayDecide : Engine I g → Type 0
  MayDecide e = (w : Wait) × HasOrdered w e

  -- the commit is that of the attempt that is next, right after those that were committed
  pub record IsOrder (commit : Commit) (e : Engine I g) : Type 0 where
    pub wait : Wait
    pub ordered : HasOrdered wait e
    pub is : IsCommitOf (Some wait) (Some commit)
    pub txid : commit.root.txid ≡ (desk_of e.coordinator).committed + 1

  -- what a turn answers
  abbrev pub Answers : Option Commit → Engine I g → Type 0
  Answers None e = IsIdle e
  Answers (Some commit) e = IsOrder commit e

  -- Memory was wanted in a turn, which left these fates: of the attempts that end in it some were
  -- added, the first first.
  pub record TurnsShort (old : Engine I g) (fates : List Attempt) : Type 0 where
    pub verdict : Option Verdict
    pub ticks : ℕ
    pub some : AddsSome
        (turned (topology_in old) (cut_in old) verdict ticks old.shut (desk_of old.coordinator)).ended
        old.fates fates

  -- the same where an outcome was told
  abbrev pub DecidesShort : CommitOutcome → Engine I g → List Attempt → Type 0
  DecidesShort how old fates =
      AddsSome (decided (topology_in old) (cut_in old) how (desk_of old.coordinator)).ended
      old.fates fates

  -- the coordinator and the fates are as they were
  pub record IsStill (old new : Engine I g) : Type 0 where
    pub coordinator : new.coordinator ≡ old.coordinator
    pub fates : new.fates ≡ old.fates

  -- an engine made a change, for which source n gave this many ids
  pub record Happens (tells : I → (ℕ → ℕ) → ℕ → Type 0) (n needed : ℕ)
      (change : List ℕ → World → World) (old new : Engine I g) : Type 0 where
    pub ids : List ℕ
    pub enough : length ids ≡ needed
    pub drawn : DrawsAt tells n ids (sources old) (sources new)
    pub same : shape new ≡ change ids (shape old)
    pub more : List Attempt
    pub added : new.fates ≡ old.fates ++ more

  -- the coordinator had a turn, and answers this
  pub record TakesTurn (tells : I → (ℕ → ℕ) → ℕ → Type 0) (t : Topology) (cut : Cut)
      (commit : Option Commit) (old new : Engine I g) : Type 0 where
    pub happens : Happens tells (tasks_in_all t) (turn_needs t cut (shape old))
        (λ ids w. turn_step t cut ids w) old new
    pub ready : IsReady t cut new
    pub answers : Answers commit new

  -- An engine goes through these steps, for which sources gave words, and attempts ended. So does
  -- the world, by any words and outcomes that begin with these.
  pub record Goes (tells : I → (ℕ → ℕ) → ℕ → Type 0) (t : Topology) (custom : Custom) (cut : Cut)
      (steps : List Step) (old new : Engine I g) : Type 0 where
    pub given : ℕ → List ℕ
    pub draws : (s : ℕ) (before : I) → slice_get (sources old) s ≡ Some before
        → (after : I) × (slice_get (sources new) s ≡ Some after)
        × Draws tells before (given s) after
    pub none : (s : ℕ) → slice_get (sources old) s ≡ None
        → (given s ≡ []) × (slice_get (sources new) s ≡ None)
    pub more : List Attempt
    pub added : new.fates ≡ old.fates ++ more
    pub runs : (words : ℕ → ℕ → ℕ) (counts : ℕ → ℕ) (outcomes : List CommitOutcome)
        → Gives words counts given → HasOutcomes outcomes new.fates
        → ((run t custom cut words outcomes steps
        (record { world = shape old; counts = counts })).world ≡ shape new)
        × ((s : ℕ) → (run t custom cut words outcomes steps
        (record { world = shape old; counts = counts })).counts s ≡ counts s + length (given s))

  -- each source has given so many of these words
  abbrev pub HaveTold : (I → (ℕ → ℕ) → ℕ → Type 0) → (ℕ → ℕ → ℕ) → (ℕ → ℕ) → Engine I g → Type 0
  HaveTold tells words counts e =
      (s : ℕ) (source : I) → slice_get (sources e) s ≡ Some source
      → tells source (words s) (counts s)
