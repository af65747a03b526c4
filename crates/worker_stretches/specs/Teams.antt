-- What the desks and ackers of all workers did together. This project's own.
use Rattle.std.specs.Prelude.{◌≡◌, ◌≤◌, ℕ, ◌+◌, false, List, length, map}
use Rattle.std.specs.List.{AllByRecursion, range_with_len}
use Rattle.std.specs.List.Sorted.{IsPermutation}
use Rattle.event_worlds.specs.bolt_ops.RowOp.{Custom}
use Rattle.box_rows.specs.declared.mail.Mail.{Mail}
use Rattle.box_rows.specs.FitRows.{held_in}
use Rattle.box_rows.specs.Rows.{sent_in, taken_in}
use Rattle.event_worlds.specs.counted_items.Weights.{weigh}
use Rattle.pulse_board.specs.declared.rule.Book.{Book}
use Rattle.event_worlds.specs.storm_ids.declared.ids.Ids.{Ghosts}
use Rattle.task_queues.specs.declared.pass.Pass.{Pass}
use Rattle.event_worlds.specs.topology_plan.Topology.{Topology}
use Rattle.event_worlds.specs.tuple_account.Histories.{History, Packet, taken}
use Rattle.event_worlds.specs.tuple_account.Moves.{HasDrawn, Moves, Station}
use Rattle.event_worlds.specs.tuple_account.Places.{spans}
use Rattle.worker_pool.specs.Ackers.{Ages}
use Rattle.worker_pool.specs.Crews.{AllLast, Gave, ackers_station, crew_left}
use Rattle.worker_pool.specs.declared.acker.AckerDesk.{AckerDesk}
use Rattle.worker_pool.specs.declared.desk.TaskDesk.{TaskDesk}
use Rattle.worker_pool.specs.Desks.{desk_station, given_at}
use Rattle.worker_pool.specs.Works.{IsInside, ended}

-- packets that wait, by their weight
abbrev pub Waiting : Type 0
Waiting = (Packet → ℕ) → ℕ

-- what waits in boxes, and what was taken from them so far
pub record BoxState : Type 0 where
  pub waits : Waiting
  pub took : Waiting

-- what a row sent waits with what another took, and it took what it took
abbrev pub books_of : List (Pass Mail) → List (Pass Mail) → BoxState
books_of row other =
    record { waits = λ f. sent_in row f + taken_in other f; took = taken_in row }

-- what boxes hold, and what was taken from them, by a row that tells both
abbrev pub boxes_of : List (Pass Mail) → BoxState
boxes_of row = record { waits = held_in row; took = taken_in row }

-- no less was taken by the second row than by the first
abbrev pub TakesMore : List (Pass Mail) → List (Pass Mail) → Type 0
TakesMore old new = (f : Packet → ℕ) → taken_in old f ≤ taken_in new f

-- no acker has counted more ticks
abbrev pub HaveCounted : ℕ → List AckerDesk → Type 0
HaveCounted tick ackers = AllByRecursion (λ (d : AckerDesk). d.counted ≤ tick) ackers

-- ackers have counted no more ticks than they had, or than a seat with this book has seen
abbrev pub CountsSeen : Book → List AckerDesk → List AckerDesk → Type 0
CountsSeen book old new =
    book.wrapped ≡ false → (tick : ℕ) → book.seen ≤ tick → HaveCounted tick old
    → HaveCounted tick new

-- an acker before and after
pub record Aging : Type 0 where
  pub old : AckerDesk
  pub new : AckerDesk
  pub ages : Ages old new

abbrev pub old_acker : Aging → AckerDesk
old_acker x = x.old

abbrev pub new_acker : Aging → AckerDesk
new_acker x = x.new

-- a desk before and after, and the ids that its source gave
pub record Giving (I : Type 0) (g : Ghosts I) (tells : I → (ℕ → ℕ) → ℕ → Type 0) : Type 0 where
  pub old : TaskDesk I g
  pub new : TaskDesk I g
  pub ids : List ℕ
  pub gave : Gave tells ids old new

module _ {I : Type 0} {g : Ghosts I} where
  -- what desks hold
  abbrev pub desks_waiting : (Packet → ℕ) → List (TaskDesk I g) → ℕ
  desks_waiting f desks = weigh (λ (d : TaskDesk I g). (desk_station 0 d).waiting f) desks

  -- what desks, ackers and boxes hold, where these words were given
  abbrev pub team_station : List (TaskDesk I g) → List AckerDesk → BoxState → (ℕ → ℕ → ℕ) → Station
  team_station desks ackers boxes given = record {
    waiting = λ f. (desks_waiting f desks + (ackers_station ackers).waiting f) + boxes.waits f;
    kept = (ackers_station ackers).kept;
    given = given;
  }

module _ {I : Type 0} {g : Ghosts I} {tells : I → (ℕ → ℕ) → ℕ → Type 0} where
  abbrev pub old_desk : Giving I g tells → TaskDesk I g
  old_desk x = x.old

  abbrev pub new_desk : Giving I g tells → TaskDesk I g
  new_desk x = x.new

  -- how many words a desk's source had given, and has given after it
  abbrev pub was_given : (ℕ → ℕ) → Giving I g tells → ℕ
  was_given counts x = counts x.old.number

  abbrev pub is_given : (ℕ → ℕ) → Giving I g tells → ℕ
  is_given counts x = counts x.old.number + length x.ids

  -- the words that the desks' sources gave, so many each
  abbrev pub spans_of : (Giving I g tells → ℕ) → List (Giving I g tells) → ℕ → ℕ → ℕ
  spans_of count givings s j =
      weigh (λ (x : Giving I g tells). spans x.old.number 0 (count x) s j) givings

  abbrev pub WereGiven : (ℕ → ℕ) → List (Giving I g tells) → Type 0
  WereGiven counts givings =
      AllByRecursion (λ (x : Giving I g tells). given_at x.old ≡ ended (was_given counts x))
      givings

  abbrev pub AreGivenNow : (ℕ → ℕ) → List (Giving I g tells) → Type 0
  AreGivenNow counts givings =
      AllByRecursion (λ (x : Giving I g tells). given_at x.new ≡ ended (is_given counts x))
      givings

  -- these are the next words of the desks' sources
  abbrev pub AreNextWords : (ℕ → ℕ → ℕ) → (ℕ → ℕ) → List (Giving I g tells) → Type 0
  AreNextWords words counts givings =
      AllByRecursion (λ (x : Giving I g tells).
      x.ids ≡ map (words x.old.number) (range_with_len (was_given counts x) (length x.ids)))
      givings

  -- What happened, where sources had given so many words. What came from boxes was executed or met,
  -- and ackers dropped nothing young.
  pub record TeamWorked (t : Topology) (custom : Custom) (counts : ℕ → ℕ)
      (givings : List (Giving I g tells)) (old new : List (TaskDesk I g))
      (before after : List AckerDesk) (was is : BoxState) : Type 0 where
    pub history : History
    pub moves : Moves t custom
        (team_station old before was (spans_of (was_given counts) givings)) history
        (team_station new after is (spans_of (is_given counts) givings))
    pub given : AreGivenNow counts givings
    pub drawn : (words : ℕ → ℕ → ℕ) → AreNextWords words counts givings → HasDrawn words history
    pub inside : IsInside history
    pub uses : (f : Packet → ℕ) → crew_left old before f + is.took f
        ≡ crew_left new after f + (was.took f + taken f history)
    pub lasts : AllLast t history before after

module _ {I : Type 0} {g : Ghosts I} where
  -- Desks and ackers did what they did, over boxes that were so before and after, and counted no
  -- ticks but those that a seat with this book has seen.
  pub record TeamDid (tells : I → (ℕ → ℕ) → ℕ → Type 0) (t : Topology) (custom : Custom)
      (book : Book) (old new : List (TaskDesk I g)) (before after : List AckerDesk)
      (was is : BoxState) : Type 0 where
    pub givings : List (Giving I g tells)
    pub olds : IsPermutation (map old_desk givings) old
    pub news : IsPermutation (map new_desk givings) new
    pub agings : List Aging
    pub befores : IsPermutation (map old_acker agings) before
    pub afters : IsPermutation (map new_acker agings) after
    pub counted : CountsSeen book before after
    pub worked : (counts : ℕ → ℕ) → WereGiven counts givings
        → TeamWorked t custom counts givings old new before after was is
