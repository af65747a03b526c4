-- What led to a world: the account of tuples and the coordinator's own account fit it.
-- This project's own.
use Rattle.std.specs.Prelude.{◌≡◌, ◌≤◌, ◌<◌, ◌^◌, ℕ, ◌+◌, ◌-◌, ◌*◌, if◌then◌else◌, List, [], ◌∷◌, All, length}
use Rattle.std.specs.List.{AllByRecursion}
use Rattle.commit_order.specs.acker_core.Entries.{AreSilent}
use Rattle.commit_order.specs.attempt_fates.declared.fates.Attempt.{Attempt}
use Rattle.commit_order.specs.attempt_fates.Fates.{HasBatch}
use Rattle.commit_order.specs.bolt_ops.RowOp.{Custom}
use Rattle.commit_order.specs.commit_turns.Account.{desk_of, ends_of, ended_of, ending_of, rows_at}
use Rattle.commit_order.specs.commit_turns.Kept.{IsKept, HaveSpans}
use Rattle.commit_order.specs.counted_items.Weights.{weigh}
use Rattle.event_worlds.specs.Orderly.{IsOrderly}
use Rattle.event_worlds.specs.Worlds.{AckerSide, Known, TaskSide, ended, task_at}
use Rattle.commit_order.specs.storm_values.declared.value.Root.{Root}
use Rattle.commit_order.specs.storm_values.Rows.{IsRow}
use Rattle.commit_order.specs.topology_plan.declared.parts.Origin.TheVariants as origin
use Rattle.commit_order.specs.topology_plan.Topology.{Topology, tasks_in_all}
use Rattle.commit_order.specs.topology_plan.Valid.{IsValid}
use Rattle.commit_order.specs.topology_plan.Wired.{IsWired, width_of}
use Rattle.commit_order.specs.tree_model.declared.messages.Parcel.TheVariants.{ToTask, ToAcker}
use Rattle.commit_order.specs.tree_model.Trees.{node_count}
use Rattle.commit_order.specs.taken_records.Cuts.{Cut, IsStart}
use Rattle.commit_order.specs.tuple_account.Drawn.{AreDrawn, started}
use Rattle.commit_order.specs.tuple_account.Ends.{lists_of, CauseBy}
use Rattle.commit_order.specs.tuple_account.Fits.{Fits}
use Rattle.commit_order.specs.tuple_account.Histories.{History, Packet, of_parcel, of_verdict, weigh_parcels, Opening, rows_in}
use Rattle.commit_order.specs.tuple_account.Moves.{HasDrawn, Reached, Station}
use Rattle.commit_order.specs.tuple_account.Parts.{weigh_entries}
use Rattle.commit_order.specs.tuple_account.Places.{before}
use Rattle.commit_order.specs.record_spans.declared.span.Span.{Span}
use Rattle.commit_order.specs.rotating_ledger.Held.{root_eq}
use Rattle.commit_order.specs.storm_values.declared.value.Value.{Value}

-- ---- what waits

-- what waits for tasks from a number on, in their boxes, and in their outboxes
abbrev pub weigh_tasks : (Packet → ℕ) → ℕ → List TaskSide → ℕ
weigh_tasks f n [] = 0
weigh_tasks f n (side ∷ sides) =
    (weigh (λ tuple. f (of_parcel (ToTask n tuple))) side.inbox + weigh_parcels f side.outbox)
    + weigh_tasks f (n + 1) sides

-- the same for ackers
abbrev pub weigh_ackers : (Packet → ℕ) → ℕ → List AckerSide → ℕ
weigh_ackers f n [] = 0
weigh_ackers f n (side ∷ sides) =
    (weigh (λ m. f (of_parcel (ToAcker n m))) side.inbox
    + weigh (λ v. f (of_verdict v)) side.outbox)
    + weigh_ackers f (n + 1) sides

-- what waits anywhere, what ackers keep, and which words were given
abbrev pub station_of : Known → Station
station_of k = record {
  waiting = λ f.
      weigh_tasks f 0 k.world.tasks
      + (weigh_ackers f 0 k.world.ackers
      + (weigh (λ v. f (of_verdict v)) k.world.verdicts + weigh_parcels f k.world.orders));
  kept = λ g. weigh (λ (side : AckerSide). weigh_entries g side.entries) k.world.ackers;
  given = λ s j. before (k.counts s) j;
}

-- ---- the account of a world

-- Where rows are those of an input: offers of the plan's size and partitions, which begin where
-- they may, of records that the spout gives.
pub record IsInput (t : Topology) (cut : Cut) : Type 0 where
  pub valid : IsValid t
  pub wired : IsWired t
  pub size : cut.size ≡ t.batch
  pub partitions : cut.partitions ≡ t.partitions
  pub start : IsStart cut
  pub rows : All (IsRow (width_of t origin.Spout)) cut.records

-- the counts of words in the stands are those that were given, up to 2^64 - 1
pub record IsCounted (t : Topology) (k : Known) : Type 0 where
  pub tasks : (n : ℕ) → n < tasks_in_all t
      → (task_at t n k.world).stand.given ≡ ended (k.counts n)
  pub spout : k.world.spout.given ≡ ended (k.counts (tasks_in_all t))

-- an attempt of a root has these spans: their records are the rows that the root was begun with
abbrev pub BeganWith : Cut → List Opening → Root → List Span → Type 0
BeganWith cut begun root spans = rows_at cut spans ≡ rows_in begun root

-- an opening has the rows of a batch that its transaction may have
abbrev pub BeginsWithBatch : Cut → Opening → Type 0
BeginsWithBatch cut o =
    (spans : List Span) × HasBatch cut o.begun.root.txid spans × (o.begun.rows ≡ rows_at cut spans)

-- A history led to a world, where sources have these words and all that waits is this: what waits
-- in the world, or more beside it.
pub record LedAt (t : Topology) (custom : Custom) (cut : Cut) (words : ℕ → ℕ → ℕ) (all : Station)
    (h : History) (k : Known) : Type 0 where
  pub reached : Reached t custom h all
  pub drawn : HasDrawn words h
  pub starts : (s : ℕ) → started s h ≤ 40
  pub orderly : IsOrderly t k.world
  pub counted : IsCounted t k
  pub kept : IsKept t cut k.world.desk k.world.fates
  pub fits : Fits t (desk_of cut k.world.desk) (ends_of k.world.fates) h
  pub spans : HaveSpans (BeganWith cut h.begun) k.world.desk k.world.fates
  pub silent : AllByRecursion (λ (side : AckerSide). AreSilent side.entries) k.world.ackers
  -- the coordinator counted no ticks but those that were handed out, and counts no more of them
  pub ticks : k.world.desk.tick ≤ k.world.tick
  pub unheard : ended (k.world.desk.tick + k.world.unheard) ≤ k.world.tick
  pub last : k.world.tick ≤ 2 ^ 64 - 1

-- a history led to a world, and nothing waits beside it
abbrev pub LedTo : Topology → Custom → Cut → (ℕ → ℕ → ℕ) → History → Known → Type 0
LedTo t custom cut words h k = LedAt t custom cut words (station_of k) h k

-- some history led to it
abbrev pub Accounted : Topology → Custom → Cut → (ℕ → ℕ → ℕ) → Known → Type 0
Accounted t custom cut words k = (h : History) × LedTo t custom cut words h k

-- ---- what follows for the fates

-- how many words a source may have given, where these attempts ended
abbrev pub most_words : Topology → Custom → Cut → List Attempt → ℕ
most_words t custom cut fates = 40 + (length fates + 64) * node_count t custom cut.records

-- the attempt's end has its cause in the attempt's own records
abbrev pub IsCausedEnd : Topology → Custom → Cut → ℕ → Attempt → Type 0
IsCausedEnd t custom cut ticks a =
    CauseBy t custom (rows_at cut a.spans) ticks (ended_of a) (ending_of a.end)

-- The records of the first of these attempts that is of a root, and none where there is none. The
-- lists of sound ends have no messages of other roots.
abbrev pub rows_by : Cut → List Attempt → Root → List (List Value)
rows_by cut [] root = []
rows_by cut (a ∷ fates) root =
    if root_eq a.root root then rows_at cut a.spans else rows_by cut fates root

-- each attempt's end has its cause, where so many ticks were handed out, and the ids of all lists
-- are drawn: words of their sources, each in one message only
pub record AreCaused (t : Topology) (custom : Custom) (cut : Cut) (ticks : ℕ)
    (words : ℕ → ℕ → ℕ) (fates : List Attempt) : Type 0 where
  pub each : AllByRecursion (IsCausedEnd t custom cut ticks) fates
  pub drawn : most_words t custom cut fates < 2 ^ 64
      → AreDrawn t custom (rows_by cut fates) words (most_words t custom cut fates)
      (lists_of (ends_of fates))
