-- The laws of worlds and of parts that runs rest on. This project's own.
use Rattle.std.specs.Prelude.{◌≡◌, ◌≤◌, ◌↔◌, ℕ, ◌+◌, true, false, List, [], ◌∷◌, ◌++◌, All, Option, Some, slice_get, length}
use Rattle.event_worlds.specs.storm_values.declared.value.Root.{Root}
use Rattle.event_worlds.specs.attempt_fates.declared.fates.Attempt.{Attempt}
use Rattle.batch_commits.specs.Standing.{AllButLastAreCounted, FailuresAreCounted, HasStrangeAt, HasTextKey, HoldAll, IsNextBatch, PartsStand, TellsFailedPart, batches_in, failed_commits, writes_at}
use Rattle.event_worlds.specs.bolt_ops.RowOp.{Custom, IsCustom}
use Rattle.event_worlds.specs.commit_turns.Account.{rows_at}
use Rattle.event_worlds.specs.commit_turns.declared.wait.Wait.{Wait}
use Rattle.event_worlds.specs.commit_turns.Desks.{Desk}
use Rattle.event_worlds.specs.commit_turns.Kept.{IsKept}
use Rattle.event_worlds.specs.commit_turns.Outcomes.{IsOutcome}
use Rattle.event_worlds.specs.commit_turns.Turns.{decided, end_by, is_finished, next_to_commit}
use Rattle.event_worlds.specs.Accounted.{Accounted, AreCaused, IsInput, LedAt}
use Rattle.event_worlds.specs.Worlds.{Known, Step, first_known, run}
use Rattle.event_worlds.specs.state_parts.Commits.{AreCommitted, ArePerhapsCommitted, CountsFollow, FailOnceAtMost, IsBadAt}
use Rattle.event_worlds.specs.state_parts.declared.answer.CommitOutcome.{CommitOutcome}
use Rattle.event_worlds.specs.state_parts.declared.parts.StatePart.{StatePart}
use Rattle.event_worlds.specs.state_parts.PartPlans.{AreParts, plans_of}
use Rattle.event_worlds.specs.state_parts.Standing.{IsEmpty}
use Rattle.storm_stores.specs.CellMaps.{CellMap}
use Rattle.event_worlds.specs.taken_records.Cuts.{Cut, IsStart}
use Rattle.event_worlds.specs.taken_records.Taken.{times_in}
use Rattle.event_worlds.specs.topology_plan.Topology.{Topology}
use Rattle.event_worlds.specs.tree_model.declared.messages.AckMsg.{AckMsg}
use Rattle.event_worlds.specs.tree_model.declared.write.Write.{Write}
use Rattle.event_worlds.specs.tree_model.Lists.{Covers, IsClosed}
use Rattle.event_worlds.specs.tuple_account.Histories.{History}
use Rattle.event_worlds.specs.tuple_account.Moves.{Station}
use Rattle.event_worlds.specs.tuple_account.Sound.{IsSound}
use Rattle.event_worlds.specs.attempt_fates.Fates.{IsWhole, committed_batches}
use Rattle.event_worlds.specs.record_offers.Offers.{is_gone}
use Rattle.event_worlds.specs.record_spans.declared.span.Span.{Span}

-- what steps rest on
pub record Laws {S : Type 0} (count : S → ℕ) (t : Topology) (custom : Custom) (cut : Cut)
    : Type 0 where
  pub accounted : (words : ℕ → ℕ → ℕ) (outcomes : List CommitOutcome) (steps : List Step)
      (k : Known) → IsInput t cut → IsCustom custom → All (IsOutcome t) outcomes
      → Accounted t custom cut words k
      → Accounted t custom cut words (run t custom cut words outcomes steps k)
  pub counts_none : (parts : List (StatePart S)) → FailuresAreCounted count [] parts parts
  pub counts_then : (xs ys : List Attempt) (a b c : List (StatePart S)) → plans_of b ≡ plans_of a
      → FailuresAreCounted count xs a b → FailuresAreCounted count ys b c
      → FailuresAreCounted count (xs ++ ys) a c
  pub none_but_last : (parts : List (StatePart S)) → AllButLastAreCounted count [] parts parts

-- what the coordinator's steps rest on
pub record CommitLaws {S : Type 0} (holds : S → CellMap → Type 0) (count : S → ℕ) (t : Topology)
    (custom : Custom) (cut : Cut) : Type 0 where
  pub done : (batches : List (List Span)) (spans : List Span) (root : Root)
      (old new : List (StatePart S)) → root.txid ≡ length batches + 1
      → IsNextBatch cut batches spans → PartsStand holds t custom cut batches old
      → AreCommitted holds custom root (writes_at t custom cut spans) old new
      → PartsStand holds t custom cut (batches ++ spans ∷ []) new
  pub broken_off : (batches : List (List Span)) (spans : List Span) (root : Root)
      (old new : List (StatePart S)) → IsInput t cut → AreParts t old
      → root.txid ≡ length batches + 1 → IsNextBatch cut batches spans
      → PartsStand holds t custom cut batches old → (HoldAll cut batches → ⊥)
      → ArePerhapsCommitted holds custom root (writes_at t custom cut spans) old new
      → PartsStand holds t custom cut batches new
  -- the commit that is ordered next is that of the next batch, which has a record that is left
  pub number : (d : Desk) (fates : List Attempt) (before : List (List Span)) (w : Wait)
      → IsKept t cut d fates → next_to_commit t cut d ≡ Some w → length before ≡ cut.start
      → w.root.txid ≡ length (before ++ committed_batches fates) + 1
  pub batch : (d : Desk) (fates : List Attempt) (before : List (List Span)) (w : Wait)
      → IsKept t cut d fates → next_to_commit t cut d ≡ Some w → length before ≡ cut.start
      → IsNextBatch cut (before ++ committed_batches fates) w.spans
  pub left : (d : Desk) (fates : List Attempt) (before : List (List Span)) (w : Wait)
      → IsKept t cut d fates → next_to_commit t cut d ≡ Some w
      → ((n : ℕ) → 1 ≤ n → n ≤ length cut.gone → is_gone cut.gone n ≡ false
      → times_in before n ≡ 0)
      → HoldAll cut (before ++ committed_batches fates) → ⊥
  pub strange : (root : Root) (made : List Write) (old new : List (StatePart S)) (key : List ℕ)
      → All HasTextKey made → ArePerhapsCommitted holds custom root made old new
      → HasStrangeAt holds new key → HasStrangeAt holds old key
  pub bad : (root : Root) (made : List Write) (old new : List (StatePart S)) (key : List ℕ)
      → ArePerhapsCommitted holds custom root made old new → IsBadAt holds new key
      → IsBadAt holds old key
  pub decided_counts : (d : Desk) (w : Wait) (how : CommitOutcome) (old new : List (StatePart S))
      → next_to_commit t cut d ≡ Some w → CountsFollow count how old new
      → FailuresAreCounted count (decided t cut how d).ended old new
  pub told_counts : (ended : Attempt) (how : CommitOutcome) (list : Option (List AckMsg))
      (old new : List (StatePart S)) → CountsFollow count how old new
      → ended.end ≡ end_by t cut how list → FailuresAreCounted count (ended ∷ []) old new
  pub quiet_counts : (xs : List Attempt) (parts : List (StatePart S)) → failed_commits xs ≡ 0
      → FailuresAreCounted count xs parts parts
  pub last_counts : (xs : List Attempt) (a b c : List (StatePart S))
      → FailuresAreCounted count xs a b → FailOnceAtMost count b c
      → AllButLastAreCounted count xs a c
  pub all_told : (xs : List Attempt) (a b : List (StatePart S)) → FailuresAreCounted count xs a b
      → AllButLastAreCounted count xs a b
  pub outcome : (how : CommitOutcome) (old new : List (StatePart S)) → AreParts t old
      → TellsFailedPart count old new how → IsOutcome t how
  pub settled : (words : ℕ → ℕ → ℕ) (all : Station) (h : History) (k : Known) → IsInput t cut
      → LedAt t custom cut words all h k → (i : ℕ) (w : Wait) (list : List AckMsg)
      → slice_get k.world.desk.pending i ≡ Some w → w.settled ≡ Some list
      → IsSound t custom (rows_at cut w.spans) w.root list × IsClosed list
      × Covers t custom (rows_at cut w.spans) list

-- what a run from its start rests on
pub record WorldLaws {S : Type 0} (holds : S → CellMap → Type 0) (count : S → ℕ) (t : Topology)
    (custom : Custom) (cut : Cut) : Type 0 where
  pub first : (words : ℕ → ℕ → ℕ) → IsInput t cut
      → Accounted t custom cut words (first_known t cut words)
  pub led : (words : ℕ → ℕ → ℕ) (outcomes : List CommitOutcome) (steps : List Step) (k : Known)
      → IsInput t cut → IsCustom custom → All (IsOutcome t) outcomes
      → Accounted t custom cut words k
      → Accounted t custom cut words (run t custom cut words outcomes steps k)
  pub causes : (words : ℕ → ℕ → ℕ) (k : Known) → IsInput t cut → Accounted t custom cut words k
      → AreCaused t custom cut k.world.desk.tick words k.world.fates
  pub whole : (d : Desk) (fates : List Attempt) → IsKept t cut d fates
      → is_finished t cut d ≡ true → IsWhole cut d.tick fates
  pub at_last_batch : (d : Desk) (fates : List Attempt) → IsStart cut → IsKept t cut d fates
      → cut.partitions ≡ 0 → (is_finished t cut d ≡ true) ↔ (d.committed ≡ batches_in cut)
  pub begin : (parts : List (StatePart S)) → All (IsEmpty holds) parts
      → PartsStand holds t custom cut [] parts
  pub none_but_last : (parts : List (StatePart S)) → AllButLastAreCounted count [] parts parts
  pub counts_last : (xs ys : List Attempt) (a b c : List (StatePart S)) → plans_of b ≡ plans_of a
      → FailuresAreCounted count xs a b → AllButLastAreCounted count ys b c
      → AllButLastAreCounted count (xs ++ ys) a c
  pub all_told : (xs : List Attempt) (a b : List (StatePart S)) → FailuresAreCounted count xs a b
      → AllButLastAreCounted count xs a b
