-- What the tasks and ackers of a worker do together. This project's own.
use Rattle.std.specs.Prelude.{◌≡◌, ◌≤◌, ℕ, suc, ◌+◌, max, Bool, List, [], ◌∷◌, length, map, Some, slice_get}
use Rattle.std.specs.List.{AllByRecursion, AllZip, range_with_len}
use Rattle.event_worlds.specs.bolt_ops.RowOp.{Custom}
use Rattle.box_rows.specs.declared.mail.Mail.{Mail}
use Rattle.box_rows.specs.Mails.{last_box}
use Rattle.box_rows.specs.Rows.{ArePasses}
use Rattle.event_worlds.specs.counted_items.Weights.{weigh}
use Rattle.event_worlds.specs.output_collector.Draws.{Draws}
use Rattle.event_worlds.specs.storm_ids.declared.ids.Ids.{Ghosts}
use Rattle.task_queues.specs.declared.pass.Mailbox.{Mailbox}
use Rattle.task_queues.specs.declared.pass.Pass.{Pass}
use Rattle.event_worlds.specs.topology_plan.Topology.{Topology}
use Rattle.event_worlds.specs.tuple_account.Histories.{History, Packet}
use Rattle.event_worlds.specs.tuple_account.Moves.{HasDrawn, Station}
use Rattle.event_worlds.specs.tuple_account.Parts.{weigh_entries}
use Rattle.event_worlds.specs.tuple_account.Places.{spans}
use Rattle.worker_pool.specs.declared.acker.AckerDesk.{AckerDesk}
use Rattle.worker_pool.specs.declared.desk.TaskDesk.{TaskDesk}
use Rattle.worker_pool.specs.Ackers.{Ages, AreRouted, CountsFew, HasYoung, IsAcker, IsAckerHeld, Meets, acker_inbox, acker_left, acker_station}
use Rattle.worker_pool.specs.Desks.{IsDesk, IsTaskHeld, desk_inbox, desk_station, given_at, source_at, task_left}
use Rattle.worker_pool.specs.Says.{AllSay, MoreAt, SaysAt}
use Rattle.worker_pool.specs.Works.{IsInside, Uses, Works, ended}

-- how many words were given after these
abbrev pub counted_on : (ℕ → ℕ) → (ℕ → List ℕ) → ℕ → ℕ
counted_on counts given n = counts n + length (given n)

-- the weights of items, each by its place, the first that of this place
abbrev pub sum_from : {X : Type 0} → (ℕ → X → ℕ) → ℕ → List X → ℕ
sum_from p n [] = 0
sum_from p n (x ∷ xs) = p n x + sum_from p (suc n) xs

-- what ackers hold
abbrev pub ackers_station : List AckerDesk → Station
ackers_station ackers = record {
  waiting = λ f. weigh (λ (d : AckerDesk). (acker_station d).waiting f) ackers;
  kept = λ g. weigh (λ (d : AckerDesk). weigh_entries g d.acker.held) ackers;
  given = λ s j. 0;
}

-- what ackers took from their boxes, and have not met
abbrev pub ackers_inbox : List AckerDesk → (Packet → ℕ) → ℕ
ackers_inbox ackers f = weigh (λ (d : AckerDesk). acker_inbox d f) ackers

-- While all have counted fewer ticks than there are buckets, young entries stay young, and none is
-- dropped.
abbrev pub AllLast : Topology → History → List AckerDesk → List AckerDesk → Type 0
AllLast t h old new =
    AreRouted t h → AllByRecursion (HasYoung t) old → AllByRecursion (CountsFew t) new
    → AllByRecursion (HasYoung t) new × (h.dropped ≡ [])

-- Ackers did what they did. They met what came from their boxes.
pub record AckersDid (t : Topology) (old new : List AckerDesk) (was is : List (Pass Mail))
    : Type 0 where
  pub ages : AllZip Ages old new
  pub meets : Meets t (ackers_station old) was (ackers_station new) is
  pub uses : Uses (ackers_inbox old) was meets.history (ackers_inbox new) is
  pub lasts : AllLast t meets.history old new

-- the acker at a place went on
abbrev pub AckerMoreAt : ℕ → List AckerDesk → List AckerDesk → List (Pass Mail) → List (Pass Mail)
    → Type 0
AckerMoreAt n old new was is = MoreAt acker_left n old new was is

-- the acker at a place did something or is held up; so did one of all
abbrev pub AckerSaysAt : Topology → ℕ → Bool → List AckerDesk → List AckerDesk → List (Pass Mail)
    → List (Pass Mail) → Type 0
AckerSaysAt t n did old new was is = SaysAt acker_left (IsAckerHeld t) n did old new was is

abbrev pub AckersSay : Topology → Bool → List AckerDesk → List AckerDesk → List (Pass Mail)
    → List (Pass Mail) → Type 0
AckersSay t did old new was is = AllSay acker_left (IsAckerHeld t) did old new was is

-- the entries of the acker at a place have aged up to this tick
abbrev pub HasCountedAt : ℕ → ℕ → List AckerDesk → Type 0
HasCountedAt n tick ackers =
    (d : AckerDesk) → slice_get ackers n ≡ Some d → d.counted ≡ tick

-- or up to the one that they had aged up to
abbrev pub KeepsCountedAt : ℕ → List AckerDesk → List AckerDesk → Type 0
KeepsCountedAt n old new = (tick : ℕ) → HasCountedAt n tick old → HasCountedAt n tick new

-- or up to this tick since, where that is a later one
abbrev pub CountsUpAt : ℕ → ℕ → List AckerDesk → List AckerDesk → Type 0
CountsUpAt n tick old new =
    (d : AckerDesk) → slice_get old n ≡ Some d → HasCountedAt n (max d.counted tick) new

-- each acker's entries have aged up to this tick since, or stayed where they had aged further
abbrev pub AreUpTo : ℕ → List AckerDesk → List AckerDesk → Type 0
AreUpTo tick old new =
    AllZip (λ (a b : AckerDesk). b.counted ≡ max a.counted tick) old new

-- or have aged no further
abbrev pub AreNotPast : ℕ → List AckerDesk → List AckerDesk → Type 0
AreNotPast tick old new =
    AllZip (λ (a b : AckerDesk). b.counted ≤ max a.counted tick) old new

-- passes and ackers are fit for work
pub record AckersAtWork (t : Topology) (boxes : List (Mailbox Mail)) (ackers : List AckerDesk)
    (row : List (Pass Mail)) : Type 0 where
  pub passes : ArePasses t boxes row
  pub boxes_are : length boxes ≡ last_box t + 1
  pub ackers_are : AllByRecursion (IsAcker t) ackers

module _ {I : Type 0} {g : Ghosts I} where
  -- so are passes and desks
  pub record DesksAtWork (t : Topology) (boxes : List (Mailbox Mail)) (desks : List (TaskDesk I g))
      (row : List (Pass Mail)) : Type 0 where
    pub passes : ArePasses t boxes row
    pub boxes_are : length boxes ≡ last_box t + 1
    pub desks_are : AllByRecursion (IsDesk t) desks

  -- the task at a place went on
  abbrev pub TaskMoreAt : ℕ → List (TaskDesk I g) → List (TaskDesk I g) → List (Pass Mail)
      → List (Pass Mail) → Type 0
  TaskMoreAt n old new was is = MoreAt task_left n old new was is

  -- the task at a place did something or is held up; so did one of all
  abbrev pub TaskSaysAt : ℕ → Bool → List (TaskDesk I g) → List (TaskDesk I g)
      → List (Pass Mail) → List (Pass Mail) → Type 0
  TaskSaysAt n did old new was is = SaysAt task_left IsTaskHeld n did old new was is

  abbrev pub TasksSay : Bool → List (TaskDesk I g) → List (TaskDesk I g) → List (Pass Mail)
      → List (Pass Mail) → Type 0
  TasksSay did old new was is = AllSay task_left IsTaskHeld did old new was is

  -- the words that the sources of desks from a place on gave
  abbrev pub spans_from : (ℕ → ℕ) → ℕ → List (TaskDesk I g) → ℕ → ℕ → ℕ
  spans_from counts n desks s j =
      sum_from (λ m (d : TaskDesk I g). spans d.number 0 (counts m) s j) n desks

  -- what a crew holds, the sources of whose desks gave so many words
  abbrev pub crew_station : (ℕ → ℕ) → List (TaskDesk I g) → List AckerDesk → Station
  crew_station counts desks ackers = record {
    waiting = λ f.
        weigh (λ (d : TaskDesk I g). (desk_station 0 d).waiting f) desks
        + (ackers_station ackers).waiting f;
    kept = (ackers_station ackers).kept;
    given = λ s j. spans_from counts 0 desks s j;
  }

  -- what was taken from boxes, and is left to execute or meet
  abbrev pub crew_left : List (TaskDesk I g) → List AckerDesk → (Packet → ℕ) → ℕ
  crew_left desks ackers f =
      weigh (λ (d : TaskDesk I g). desk_inbox d f) desks + ackers_inbox ackers f

  abbrev pub AreGiven : (ℕ → ℕ) → List (TaskDesk I g) → Type 0
  AreGiven counts desks =
      (n : ℕ) (d : TaskDesk I g) → slice_get desks n ≡ Some d → given_at d ≡ ended (counts n)

  -- these are the next words of the desks' sources
  abbrev pub AreNext : (ℕ → ℕ → ℕ) → (ℕ → ℕ) → (ℕ → List ℕ) → List (TaskDesk I g) → Type 0
  AreNext words counts given desks =
      (n : ℕ) (d : TaskDesk I g) → slice_get desks n ≡ Some d
      → given n ≡ map (words d.number) (range_with_len (counts n) (length (given n)))

  -- What happened at desks and ackers whose sources had given so many words. They executed and met
  -- what came from their boxes, and ackers dropped nothing young.
  pub record CrewWorked (t : Topology) (custom : Custom) (counts : ℕ → ℕ) (given : ℕ → List ℕ)
      (old new : List (TaskDesk I g)) (before after : List AckerDesk)
      (was is : List (Pass Mail)) : Type 0 where
    pub history : History
    pub works : Works t custom (crew_station counts old before) was history
        (crew_station (counted_on counts given) new after) is
    pub are_given : AreGiven (counted_on counts given) new
    pub drawn : (words : ℕ → ℕ → ℕ) → AreNext words counts given old → HasDrawn words history
    pub inside : IsInside history
    pub uses : Uses (crew_left old before) was history (crew_left new after) is
    pub lasts : AllLast t history before after

  -- a source gave these words, at the same desk
  pub record Gave (tells : I → (ℕ → ℕ) → ℕ → Type 0) (ids : List ℕ) (old new : TaskDesk I g)
      : Type 0 where
    pub number : new.number ≡ old.number
    pub draws : Draws tells (source_at old) ids (source_at new)

  -- Desks did what they did, with these ids of their sources, by their places; so did ackers.
  pub record CrewDid (tells : I → (ℕ → ℕ) → ℕ → Type 0) (t : Topology) (custom : Custom)
      (old new : List (TaskDesk I g)) (before after : List AckerDesk)
      (was is : List (Pass Mail)) : Type 0 where
    pub given : ℕ → List ℕ
    pub many : length new ≡ length old
    pub gave : (n : ℕ) (a : TaskDesk I g) → slice_get old n ≡ Some a
        → (b : TaskDesk I g) × (slice_get new n ≡ Some b) × Gave tells (given n) a b
    pub ages : AllZip Ages before after
    pub worked : (counts : ℕ → ℕ) → AreGiven counts old
        → CrewWorked t custom counts given old new before after was is
