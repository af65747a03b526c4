-- What the commit of a batch makes of all parts, and what is answered of it.
use Rattle.std.specs.Prelude.{◌≡◌, ◌≤◌, ◌==◌, ◌&&◌, ◌⊎◌, ℕ, Bool, true, false, List, map, filter, All, Option, None, Some, unwrap_or, Result, Ok, Err, OnOk, IsErrOf, slice_get}
use Rattle.std.specs.List.{list_any, AllZip}
use Rattle.tree_model.specs.storm_values.declared.value.Root.{Root}
use Rattle.tree_model.specs.storm_values.Lines.{first_some}
use Rattle.tree_model.specs.storm_values.Counts.{raised}
use Rattle.storm_stores.specs.CellMaps.{CellMap, cell_at}
use Rattle.tree_model.specs.bolt_ops.RowOp.{Custom}
use Rattle.tree_model.specs.Tables.{folded}
use Rattle.tree_model.specs.declared.write.Write.{Write}
use Rattle.cell_format.specs.Commits.{IsDone, IsPerhapsDone, amounts_at}
use Rattle.state_cells.specs.declared.fault.PartFault.{PartFault}
use Rattle.state_cells.specs.declared.fault.PartFault.TheVariants as fault
use Rattle.state_cells.specs.Turns.{IsBad, Turns}
use Rattle.state_parts.specs.declared.answer.CommitFault.{CommitFault}
use Rattle.state_parts.specs.declared.answer.CommitFault.TheVariants.{BadCell, Memory}
use Rattle.state_parts.specs.declared.answer.CommitOutcome.{CommitOutcome}
use Rattle.state_parts.specs.declared.answer.CommitOutcome.TheVariants.{Done, Failed}
use Rattle.state_parts.specs.declared.answer.Tally.{Tally}
use Rattle.state_parts.specs.declared.parts.StatePart.{StatePart}
use Rattle.state_parts.specs.PartPlans.{plan_of, plans_of}

-- ---- the writes of a part

-- a write is for the part of these numbers
abbrev pub is_for_part : ℕ → ℕ → Write → Bool
is_for_part component part write = (write.state == component) && (write.part == part)

-- the writes of a batch for a part, in their order
abbrev pub own_writes : {S : Type 0} → List Write → StatePart S → List Write
own_writes writes at = filter (is_for_part at.component at.part) writes

-- ---- what becomes of a part

-- A part as it was, and as it is after a commit of these writes of its own, or of none: the
-- store's cells are those of the whole commit.
pub record Committed {S : Type 0} (tells : S → CellMap → Type 0) (custom : Custom) (root : Root) (own : List Write)
    (old new : StatePart S) : Type 0 where
  pub plan : plan_of new ≡ plan_of old
  pub turns : Turns tells
      (λ key. IsDone old.over.kind (folded custom old.over.by) root (amounts_at own key))
      old.over.store new.over.store

-- the same where the commit may have been broken off: each key has its old cell or the commit's
pub record PerhapsCommitted {S : Type 0} (tells : S → CellMap → Type 0) (custom : Custom) (root : Root)
    (own : List Write) (old new : StatePart S) : Type 0 where
  pub plan : plan_of new ≡ plan_of old
  pub turns : Turns tells
      (λ key. IsPerhapsDone old.over.kind (folded custom old.over.by) root (amounts_at own key))
      old.over.store new.over.store

-- each part is committed with its writes of the batch
abbrev pub AreCommitted : {S : Type 0} → (S → CellMap → Type 0) → Custom → Root → List Write
    → List (StatePart S) → List (StatePart S) → Type 0
AreCommitted tells custom root writes old new =
    AllZip (λ was is. Committed tells custom root (own_writes writes was) was is) old new

-- each part is committed so, or its commit was broken off
abbrev pub ArePerhapsCommitted : {S : Type 0} → (S → CellMap → Type 0) → Custom → Root → List Write
    → List (StatePart S) → List (StatePart S) → Type 0
ArePerhapsCommitted tells custom root writes old new =
    AllZip (λ was is. PerhapsCommitted tells custom root (own_writes writes was) was is) old new

-- no part's store has fewer faults than before
abbrev pub NoCountFell : {S : Type 0} → (S → ℕ) → List (StatePart S) → List (StatePart S) → Type 0
NoCountFell count old new = AllZip (λ was is. count was.over.store ≤ count is.over.store) old new

-- no part's store failed
abbrev pub SameCounts : {S : Type 0} → (S → ℕ) → List (StatePart S) → List (StatePart S) → Type 0
SameCounts count old new = AllZip (λ was is. count is.over.store ≡ count was.over.store) old new

-- a part's store failed once at most
abbrev pub FailedOnceAtMost : ℕ → ℕ → Type 0
FailedOnceAtMost before after = (after ≡ before) ⊎ (after ≡ raised before)

-- the same of each part
abbrev pub FailOnceAtMost : {S : Type 0} → (S → ℕ) → List (StatePart S) → List (StatePart S)
    → Type 0
FailOnceAtMost count old new =
    AllZip (λ was is. FailedOnceAtMost (count was.over.store) (count is.over.store)) old new

-- The count of a part went from `low` to `high` where a store is told to have failed: the told
-- part's failed once, by the told counts, and another part's once at most.
abbrev pub FailureFollows : Bool → (before after low high : ℕ) → Type 0
FailureFollows true before after low high =
    (low ≡ before) × (high ≡ after) × (after ≡ raised before)
FailureFollows false before after low high = FailedOnceAtMost low high

-- what the outcome of a commit says of the count of a part
abbrev pub CountFollows : CommitOutcome → (component part low high : ℕ) → Type 0
CountFollows Done component part low high = high ≡ low
CountFollows (Failed c p before after) component part low high =
    FailureFollows ((c == component) && (p == part)) before after low high

-- what it says of the counts of all parts
abbrev pub CountsFollow : {S : Type 0} → (S → ℕ) → CommitOutcome → List (StatePart S)
    → List (StatePart S) → Type 0
CountsFollow count how old new =
    AllZip
    (λ was is.
    CountFollows how was.component was.part (count was.over.store) (count is.over.store))
    old new

-- ---- what the parts answer

-- a part before its commit and after it, and what it answered
pub record Trial (S : Type 0) : Type 0 where
  pub old : StatePart S
  pub new : StatePart S
  pub answer : Result (Unit {0}) PartFault

-- a part's commit came to this
pub record IsTrial {S : Type 0} (tells : S → CellMap → Type 0) (custom : Custom) (count : S → ℕ) (root : Root)
    (own : List Write) (trial : Trial S) : Type 0 where
  pub plan : plan_of trial.new ≡ plan_of trial.old
  pub done : OnOk trial.answer (Committed tells custom root own trial.old trial.new)
  pub kept : PerhapsCommitted tells custom root own trial.old trial.new
  pub failed : IsErrOf trial.answer fault.Store
      → count trial.new.over.store ≡ raised (count trial.old.over.store)
  pub quiet : (IsErrOf trial.answer fault.Store → ⊥)
      → count trial.new.over.store ≡ count trial.old.over.store
  pub bad : (key : List ℕ) → IsErrOf trial.answer (fault.BadCell key) → (cells : CellMap)
      → tells trial.old.over.store cells → IsBad trial.old.over.kind (cell_at cells key)
  pub never_falls : count trial.old.over.store ≤ count trial.new.over.store

abbrev pub wants_memory : Result (Unit {0}) PartFault → Bool
wants_memory (Ok done) = false
wants_memory (Err fault.Store) = false
wants_memory (Err (fault.BadCell key)) = false
wants_memory (Err fault.Memory) = true

-- the key of a bad cell, where a part answered one
abbrev pub bad_key : Result (Unit {0}) PartFault → Option (List ℕ)
bad_key (Ok done) = None
bad_key (Err fault.Store) = None
bad_key (Err (fault.BadCell key)) = Some key
bad_key (Err fault.Memory) = None

-- a part's numbers with these counts, where its store failed
abbrev pub failure_by : ℕ → ℕ → ℕ → ℕ → Result (Unit {0}) PartFault → Option CommitOutcome
failure_by component part before after (Ok done) = None
failure_by component part before after (Err fault.Store) =
    Some (Failed component part before after)
failure_by component part before after (Err (fault.BadCell key)) = None
failure_by component part before after (Err fault.Memory) = None

-- a part with its count before and after, where its store failed
abbrev pub failure_of : {S : Type 0} → (S → ℕ) → Trial S → Option CommitOutcome
failure_of count trial =
    failure_by trial.old.component trial.old.part (count trial.old.over.store)
    (count trial.new.over.store) trial.answer

-- ---- what is answered of all

-- whether a part wanted memory, the first bad cell, and the first part whose store failed
abbrev pub tally_of : {S : Type 0} → (S → ℕ) → List (Trial S) → Tally
tally_of {S} count trials = record {
  no_memory = list_any (λ (trial : Trial S). wants_memory trial.answer) trials;
  bad = first_some (map (λ (trial : Trial S). bad_key trial.answer) trials);
  failed = first_some (map (failure_of count) trials);
}

-- want of memory goes first, then a bad cell, then a failed store
abbrev pub answer_by : Bool → Option (List ℕ) → Option CommitOutcome
    → Result CommitOutcome CommitFault
answer_by true bad failed = Err Memory
answer_by false (Some key) failed = Err (BadCell key)
answer_by false None failed = Ok (unwrap_or failed Done)

abbrev pub answer_of : Tally → Result CommitOutcome CommitFault
answer_of tally = answer_by tally.no_memory tally.bad tally.failed

-- Each part was tried, one after another, each with its writes of the batch, and their answers
-- came to this.
pub record AreTried {S : Type 0} (tells : S → CellMap → Type 0) (custom : Custom) (count : S → ℕ) (root : Root)
    (writes : List Write) (old new : List (StatePart S)) (tally : Tally) : Type 0 where
  pub trials : List (Trial S)
  pub each : All (λ trial. IsTrial tells custom count root (own_writes writes trial.old) trial) trials
  pub olds : map (λ (trial : Trial S). trial.old) trials ≡ old
  pub news : map (λ (trial : Trial S). trial.new) trials ≡ new
  pub tally_is : tally ≡ tally_of count trials

-- the answer of a commit that did not want memory: every part was tried, and this follows of
-- what they answered
pub record Comes {S : Type 0} (tells : S → CellMap → Type 0) (custom : Custom) (count : S → ℕ) (root : Root)
    (writes : List Write) (old new : List (StatePart S))
    (result : Result CommitOutcome CommitFault) : Type 0 where
  pub tally : Tally
  pub tried : AreTried tells custom count root writes old new tally
  pub result_is : result ≡ answer_of tally

-- ---- each answer alone

-- the part of these numbers stood before the commit and stands after it, and its store failed once
pub record IsFailedPart {S : Type 0} (count : S → ℕ) (old new : List (StatePart S))
    (component part before after : ℕ) : Type 0 where
  pub place : ℕ
  pub was : StatePart S
  pub is : StatePart S
  pub was_at : slice_get old place ≡ Some was
  pub is_at : slice_get new place ≡ Some is
  pub component_is : was.component ≡ component
  pub part_is : was.part ≡ part
  pub before_is : count was.over.store ≡ before
  pub after_is : count is.over.store ≡ after
  pub rose : after ≡ raised before

-- one of the parts had at this key a cell that it does not take
pub record IsBadAt {S : Type 0} (tells : S → CellMap → Type 0) (old : List (StatePart S))
    (key : List ℕ) : Type 0 where
  pub place : ℕ
  pub was : StatePart S
  pub was_at : slice_get old place ≡ Some was
  pub bad : (cells : CellMap) → tells was.over.store cells
      → IsBad was.over.kind (cell_at cells key)

-- ---- all that is said of a commit

-- a commit of these writes to all parts came to this answer
pub record IsCommit {S : Type 0} (tells : S → CellMap → Type 0) (custom : Custom) (count : S → ℕ) (root : Root)
    (writes : List Write) (old new : List (StatePart S))
    (result : Result CommitOutcome CommitFault) : Type 0 where
  pub plans : plans_of new ≡ plans_of old
  pub comes : (result ≡ Err Memory → ⊥) → Comes tells custom count root writes old new result
  pub done : result ≡ Ok Done → AreCommitted tells custom root writes old new
  pub kept : ArePerhapsCommitted tells custom root writes old new
  pub failed : (component part before after : ℕ)
      → result ≡ Ok (Failed component part before after)
      → IsFailedPart count old new component part before after
  pub bad : (key : List ℕ) → result ≡ Err (BadCell key) → IsBadAt tells old key
  pub never_falls : NoCountFell count old new
  pub counted : (how : CommitOutcome) → result ≡ Ok how → CountsFollow count how old new
  pub at_most_once : FailOnceAtMost count old new
