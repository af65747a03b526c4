-- The coordinator's steps over the parts.
use Rattle.std.proofs.Common.{◌≡◌, ℕ, suc, ◌+◌, ◌==◌, ◌&&◌, Bool, true, false, cond, List, [], ◌∷◌, ◌++◌, All, length, find, get_or, inl, inr, Option, None, Some, is_some, Result, Ok, Err, refl, sym, ap, subst, ◌∙◌, append_assoc, append-nil, true≢false, arith}
use Rattle.std.specs.Prelude.{◌⊎◌, OnOk, slice_get}
use Rattle.std.specs.List.{AllZip}
use Rattle.std.specs.Result.{IsErrAnd}
use Rattle.std.proofs.lemmas.List.{append_cancel_left}
use Rattle.std.proofs.lemmas.List.Elements.{All-append, All-cons, All-nil}
use Rattle.std.proofs.lemmas.List.FromFn.{fill_by_all}
use Rattle.event_worlds.specs.storm_values.declared.value.Root.{Root}
use Rattle.event_worlds.specs.acker_core.declared.verdict.Verdict.{Verdict}
use Rattle.event_worlds.specs.attempt_fates.declared.fates.Attempt.{Attempt}
use Rattle.event_worlds.specs.attempt_fates.declared.fates.End.TheVariants.{Committed}
use Rattle.event_worlds.specs.attempt_fates.Fates.{committed, committed_batches, committed_txids, is_committed}
use Rattle.batch_commits.specs.Standing.{FailuresAreCounted, HasTextKey, HoldAll, IsNextBatch, PartsStand, TellsFailedPart, failed_commits, writes_at}
use Rattle.event_worlds.specs.bolt_ops.RowOp.{Custom}
use Rattle.event_worlds.specs.commit_order.Follows.{AreCommitsOf, FailsAtLast, Follows, IsCommitBy, IsTaken}
use Rattle.event_worlds.specs.commit_order.Offices.{AddsSome, IsCommitOf}
use Rattle.event_worlds.specs.commit_turns.Account.{rows_at}
use Rattle.event_worlds.specs.commit_turns.declared.wait.Wait.{Wait}
use Rattle.event_worlds.specs.commit_turns.Desks.{Desk, ended_at, without}
use Rattle.event_worlds.specs.commit_turns.Kept.{IsKept}
use Rattle.event_worlds.specs.commit_turns.Outcomes.{IsOutcome}
use Rattle.event_worlds.specs.commit_turns.Turns.{decided, decided_by, drops, end_by, next_to_commit, turned}
use Rattle.event_worlds.proofs.commit_writes.Whole.{whole_writes}
use Rattle.event_engine.proofs.GoesLemmas.{goes-idle, next-told, outcomes-append}
use Rattle.event_engine.proofs.LoopLemmas.{goes_there}
use Rattle.event_engine.specs.declared.engine.Engine.{Engine}
use Rattle.event_engine.specs.Engines.{DecidesShort, Goes, HasOutcomes, IsIdle, IsOrder, IsReady, cut_in, has_ended, shape, topology_in}
use Rattle.event_worlds.specs.Accounted.{IsInput, LedAt, station_of}
use Rattle.event_worlds.specs.Worlds.{Known, Step, World, is_over, next_outcome, next_words, of_outcome, of_turn, coordinator_steps, outcome_step, outcomes_of, run, step, turn_needs, turn_step, with_progress}
use Rattle.event_worlds.specs.record_spans.declared.span.Span.{Span}
use Rattle.event_worlds.specs.taken_records.Taken.{one_if}
use Rattle.schedule_core.specs.Driving.{AreBefore, Breaks, Drives, HasDeskOf, Leaves, StandOn, WantsMemory}
use Rattle.schedule_core.specs.declared.fault.RunFault.{RunFault}
use Rattle.schedule_core.specs.declared.fault.RunFault.TheVariants as fault
use Rattle.schedule_core.specs.Following.{Followed, TellsOf, Unfollowed, next_txid}
use Rattle.schedule_core.specs.Laws.{CommitLaws, Laws}
use Rattle.schedule_core.proofs.Following.{fails-then, follows-quiet, follows-then, many_committed, taken_next, taken_same}
use Rattle.schedule_core.proofs.Drives.{drives-none, drives-still, drives-then, stands-same, stands-then}
use Rattle.schedule_core.proofs.Quiet.{IsQuiet, batches_append, batches_quiet, first_none, none_batches, none_done_of, none_failed_of, none_of_drops, none_turned, quiet_nothing, quiet_same, quiet_turn, some_none}
use Rattle.event_worlds.specs.state_parts.Commits.{AreCommitted, ArePerhapsCommitted, CountsFollow, FailOnceAtMost, IsBadAt}
use Rattle.event_worlds.specs.state_parts.declared.answer.Commit.{Commit}
use Rattle.event_worlds.specs.state_parts.declared.answer.CommitOutcome.{CommitOutcome}
use Rattle.event_worlds.specs.state_parts.declared.answer.CommitOutcome.TheVariants.{Done, Failed}
use Rattle.event_worlds.specs.state_parts.declared.parts.StatePart.{StatePart}
use Rattle.event_worlds.specs.state_parts.PartPlans.{AreParts, plans_of}
use Rattle.event_worlds.specs.storm_ids.declared.ids.Ids.{Ghosts}
use Rattle.storm_stores.specs.CellMaps.{CellMap}
use Rattle.event_worlds.specs.topology_plan.Topology.{Topology, tasks_in_all}
use Rattle.event_worlds.specs.tree_model.declared.messages.AckMsg.{AckMsg}
use Rattle.event_worlds.specs.tree_model.declared.write.Write.{Write}
use Rattle.event_worlds.specs.taken_records.Cuts.{Cut}
use Rattle.event_worlds.specs.tuple_account.Histories.{History}
use Rattle.event_worlds.specs.tuple_account.Moves.{Station}

-- ---- lists

-- what is found stands at a place
found_at : {X : Type 0} (p : X → Bool) (xs : List X) (x : X) → find p xs ≡ Some x → (i : ℕ) × (slice_get xs i ≡ Some x) × (p x ≡ true)
found_at p [] x is = absurd (let e : None ≡ Some x = is in cc)
found_at {X} p (y ∷ ys) x is = by (p y) refl is (found_at p ys x)
  where
    by : (b : Bool) → p y ≡ b → cond b (Some y) (find p ys) ≡ Some x → (find p ys ≡ Some x → (i : ℕ) × (slice_get ys i ≡ Some x) × (p x ≡ true)) → (i : ℕ) × (slice_get (y ∷ ys) i ≡ Some x) × (p x ≡ true)
    by true here is rest = let same : y ≡ x = (let e : Some y ≡ Some x = is in cc) in (0, is, subst (λ (z : X). p z ≡ true) same here)
    by false here is rest = let r = rest is in (suc r.0, r.1, r.2)

both_true : (a b : Bool) → (a && b) ≡ true → b ≡ true
both_true true b is = is
both_true false b is = absurd (true≢false (sym is))

-- ---- faults that are handed on

-- the fault that is handed on is the one that was met
pub exit_is : {T E : Type 0} (r : Result T E) (met told : E) → IsErrAnd r (λ e. e ≡ met) → r ≡ Err told → met ≡ told
exit_is (Ok x) met told exits is = absurd exits
exit_is (Err e) met told exits is = sym exits ∙ (let same : Err e ≡ Err told = is in cc)

-- ---- worlds

module _ (t : Topology) (custom : Custom) (cut : Cut) (words : ℕ → ℕ → ℕ) (outcomes : List CommitOutcome) (k : Known) where
  turn_world : (step t custom cut words outcomes of_turn k).world ≡ turn_step t cut (next_words words k.counts (tasks_in_all t) (turn_needs t cut k.world)) k.world
  unfolding step
  turn_world = refl

  outcome_world : (step t custom cut words outcomes of_outcome k).world ≡ outcome_step t cut (next_outcome outcomes k.world.fates) k.world
  unfolding step
  outcome_world = refl

  turned_quietly : (b : Bool) → is_over t cut k.world ≡ b → IsQuiet t cut k.world (run t custom cut words outcomes (of_turn ∷ []) k).world
  turned_quietly true is = quiet_nothing t cut k.world _ (ap (λ (b : Bool). (cond b k (step t custom cut words outcomes of_turn k)).world) is)
  turned_quietly false is =
      quiet_same t cut k.world _ _ (ap (λ (b : Bool). (cond b k (step t custom cut words outcomes of_turn k)).world) is ∙ turn_world)
      (quiet_turn t cut (next_words words k.counts (tasks_in_all t) (turn_needs t cut k.world)) k.world)

-- what came of a commit to all parts
pub record CommitComes {S : Type 0} (holds : S → CellMap → Type 0) (custom : Custom) (count : S → ℕ) (root : Root) (made : List Write) (how : CommitOutcome) (was is : List (StatePart S)) : Type 0 where
  pub plans : plans_of is ≡ plans_of was
  pub done : how ≡ Done → AreCommitted holds custom root made was is
  pub kept : ArePerhapsCommitted holds custom root made was is
  pub failed : TellsFailedPart count was is how
  pub counted : CountsFollow count how was is

module _ {S : Type 0} (holds : S → CellMap → Type 0) (count : S → ℕ) (t : Topology) (custom : Custom) (cut : Cut) where
  -- the writes of a commit that was ordered are those of the records of its batch
  ordered_writes : (more : CommitLaws holds count t custom cut) (words : ℕ → ℕ → ℕ) (all : Station) (h : History) (k : Known) (w : Wait) (commit : Commit) → IsInput t cut → LedAt t custom cut words all h k → next_to_commit t cut k.world.desk ≡ Some w → IsCommitOf (Some w) (Some commit)
      → commit.writes ≡ writes_at t custom cut w.spans
  ordered_writes more words all h k w commit input led next is =
      let found = found_at (λ (x : Wait). (x.root.txid == k.world.desk.committed + 1) && is_some x.settled) k.world.desk.pending w next in
      let settled : is_some w.settled ≡ true = both_true (w.root.txid == k.world.desk.committed + 1) (is_some w.settled) found.2 in
      by w.settled refl settled found.0 found.1
    where
      by : (o : Option (List AckMsg)) → w.settled ≡ o → is_some o ≡ true → (i : ℕ) → slice_get k.world.desk.pending i ≡ Some w → commit.writes ≡ writes_at t custom cut w.spans
      by None same some i at = absurd (true≢false (sym some))
      by (Some list) same some i at =
          let whole = more.settled words all h k input led i w list at same in
          whole_writes t custom (rows_at cut w.spans) w.root list commit.writes input.valid whole.0.is_true whole.0.is_single whole.2 (is.2 list same)

-- ---- the attempt whose commit was ordered ends

module _ (t : Topology) (cut : Cut) where
  -- it is settled
  settled_next : (d : Desk) (w : Wait) → next_to_commit t cut d ≡ Some w → is_some w.settled ≡ true
  settled_next d w next =
      let found = found_at (λ (x : Wait). (x.root.txid == d.committed + 1) && is_some x.settled) d.pending w next in both_true (w.root.txid == d.committed + 1) (is_some w.settled) found.2

  done_is : (o : Option (List AckMsg)) → is_committed (end_by t cut Done o) ≡ true
  done_is None = refl
  done_is (Some list) = refl

module _ (t : Topology) (cut : Cut) (d : Desk) (w : Wait) where
  -- the end of an attempt whose commit came to this
  abbrev pub told_end : CommitOutcome → Attempt
  told_end how = ended_at d.tick (end_by t cut how w.settled) w

  -- it ends first, and then those that are dropped with it, which tell of no commit
  pub decided_ends : (how : CommitOutcome) → next_to_commit t cut d ≡ Some w → (rest : List Attempt) × ((decided t cut how d).ended ≡ told_end how ∷ rest) × (outcomes_of rest ≡ [])
  decided_ends Done next = ([], ap (λ (o : Option Wait). (decided_by t cut Done o d).ended) next, refl)
  decided_ends (Failed component part before after) next = (
    drops t cut d.tick w.root (without w.root d.pending),
    ap (λ (o : Option Wait). (decided_by t cut (Failed component part before after) o d).ended) next,
    none_of_drops t cut d.tick w.root (without w.root d.pending),
  )

  -- its batch was committed where the commit was done
  batches_done : (rest : List Attempt) → outcomes_of rest ≡ [] → committed_batches (told_end Done ∷ rest) ≡ w.spans ∷ []
  batches_done rest quiet = by w.settled
    where
      by : (list : Option (List AckMsg)) → committed_batches (ended_at d.tick (end_by t cut Done list) w ∷ rest) ≡ w.spans ∷ []
      by None = ap (λ bs. w.spans ∷ bs) (none_batches rest quiet)
      by (Some list) = ap (λ bs. w.spans ∷ bs) (none_batches rest quiet)

module _ {I S : Type 0} {g : Ghosts I} (tells : I → (ℕ → ℕ) → ℕ → Type 0) (holds : S → CellMap → Type 0) (count : S → ℕ) (t : Topology) (custom : Custom) (cut : Cut) where
  -- by some words, an engine goes as a world does
  pub somewhere : (steps : List Step) (old new : Engine I g) → Goes tells t custom cut steps old new
      → (words : ℕ → ℕ → ℕ) × ((run t custom cut words (outcomes_of new.fates) steps (record { world = shape old; counts = λ s. 0 })).world ≡ shape new)
  somewhere steps old new goes =
      let words : ℕ → ℕ → ℕ = λ s k. get_or (goes.given s) k 0 in (
        words,
        (goes.runs words (λ s. 0) (outcomes_of new.fates) (λ s. sym (fill_by_all (words s) (goes.given s) (length (goes.given s)) 0 refl (λ k below. refl))) (record { rest = []; first = sym (append-nil (outcomes_of new.fates)) })).0,
      )

  turn_quiet : (old mid : Engine I g) → Goes tells t custom cut (of_turn ∷ []) old mid → IsQuiet t cut (shape old) (shape mid)
  turn_quiet old mid goes =
      let some = somewhere (of_turn ∷ []) old mid goes in
      let k : Known = record { world = shape old; counts = λ s. 0 } in
      quiet_same t cut (shape old) (shape mid) _ (sym some.1) (turned_quietly t custom cut some.0 (outcomes_of mid.fates) k (is_over t cut (shape old)) refl)

  -- the attempts that end in a turn tell of no failure
  turn_counted : (more : CommitLaws holds count t custom cut) (old mid : Engine I g) (parts : List (StatePart S)) (goes : Goes tells t custom cut (of_turn ∷ []) old mid) → FailuresAreCounted count goes.more parts parts
  turn_counted more old mid parts goes =
      let q = turn_quiet old mid goes in
      let more_is : goes.more ≡ q.more = append_cancel_left old.fates goes.more q.more (sym goes.added ∙ q.added) in
      more.quiet_counts goes.more parts (ap failed_commits more_is ∙ none_failed_of q.more q.quiet)

  -- and tell no outcome of a commit
  turn_told : (old mid : Engine I g) → Goes tells t custom cut (of_turn ∷ []) old mid → outcomes_of mid.fates ≡ outcomes_of old.fates
  turn_told old mid goes =
      let q = turn_quiet old mid goes in ap outcomes_of q.added ∙ outcomes-append old.fates q.more ∙ ap (λ (hs : List CommitOutcome). outcomes_of old.fates ++ hs) q.quiet ∙ append-nil (outcomes_of old.fates)

  -- a turn leaves the parts alone
  pub drives-turn : (more : CommitLaws holds count t custom cut) (old mid : Engine I g) (parts : List (StatePart S)) → Goes tells t custom cut (of_turn ∷ []) old mid → Drives tells holds count t custom cut (of_turn ∷ []) old mid parts parts
  drives-turn more old mid parts goes = record {
    goes = goes;
    plans = refl;
    outcomes = λ are good. subst (λ (hs : List CommitOutcome). All (IsOutcome t) hs) (sym (turn_told old mid goes)) good;
    stands = λ words counts outcomes gives has input keeps good led planned.
        let q = turn_quiet old mid goes in stands-same holds t custom cut old.fates mid.fates parts (batches_quiet old.fates q.more mid.fates q.added q.quiet);
    bad = λ key found. found;
    strange = λ key found. found;
    counted = turn_counted more old mid parts goes;
  }

  -- what the coordinator keeps, by the account of a world that has its desk
  kept_at : (mid : Engine I g) (words : ℕ → ℕ → ℕ) (all : Station) (h : History) (k : Known) → HasDeskOf mid k → LedAt t custom cut words all h k → IsKept t cut (shape mid).desk mid.fates
  kept_at mid words all h k has led = subst (λ (fs : List Attempt). IsKept t cut (shape mid).desk fs) has.fates (subst (λ (d : Desk). IsKept t cut d k.world.fates) has.desk led.kept)

  -- what a commit left that was ordered and came to its outcome or was broken off
  module _ (laws : Laws count t custom cut) (more : CommitLaws holds count t custom cut) (mid : Engine I g) (was is : List (StatePart S)) (w : Wait) (commit : Commit)
      (next : next_to_commit t cut (shape mid).desk ≡ Some w) (ordered : IsCommitOf (Some w) (Some commit)) (texts : All HasTextKey commit.writes)
      (kept : ArePerhapsCommitted holds custom commit.root commit.writes was is) where
    -- its writes are those of the next batch
    next_writes : (words : ℕ → ℕ → ℕ) (all : Station) (h : History) (k : Known) → HasDeskOf mid k → IsInput t cut → LedAt t custom cut words all h k → commit.writes ≡ writes_at t custom cut w.spans
    next_writes words all h k has input led = ordered_writes holds count t custom cut more words all h k w commit input led (ap (next_to_commit t cut) has.desk ∙ next) ordered

    module _ (input : IsInput t cut) (keeps : IsKept t cut (shape mid).desk mid.fates) (planned : AreParts t was) (writes_are : commit.writes ≡ writes_at t custom cut w.spans) where
      next_number : (before : List (List Span)) → AreBefore cut before → commit.root.txid ≡ length (before ++ committed_batches mid.fates) + 1
      next_number before are = ap (λ r. r.txid) ordered.0 ∙ more.number (shape mid).desk mid.fates before w keeps next are.many

      next_batch : (before : List (List Span)) → AreBefore cut before → IsNextBatch cut (before ++ committed_batches mid.fates) w.spans
      next_batch before are = more.batch (shape mid).desk mid.fates before w keeps next are.many

      -- some record is left for it
      next_left : (before : List (List Span)) → AreBefore cut before → HoldAll cut (before ++ committed_batches mid.fates) → ⊥
      next_left before are = more.left (shape mid).desk mid.fates before w keeps next (λ n first last fresh. are.gone n first last ∙ ap one_if fresh)

      stands-broken : StandOn holds t custom cut mid.fates mid.fates was is
      stands-broken = λ before are stand.
          more.broken_off (before ++ committed_batches mid.fates) w.spans commit.root was is input planned (next_number before are) (next_batch before are) stand (next_left before are)
          (subst (λ (ws : List Write). ArePerhapsCommitted holds custom commit.root ws was is) writes_are kept)

      stands-done : AreCommitted holds custom commit.root commit.writes was is → (new : List Attempt) → committed_batches new ≡ committed_batches mid.fates ++ w.spans ∷ [] → StandOn holds t custom cut mid.fates new was is
      stands-done done new added = λ before are stand.
          subst (λ (bs : List (List Span)). PartsStand holds t custom cut bs is) (append_assoc before (committed_batches mid.fates) (w.spans ∷ []) ∙ ap (λ bs. before ++ bs) (sym added))
          (more.done (before ++ committed_batches mid.fates) w.spans commit.root was is (next_number before are) (next_batch before are) stand
          (subst (λ (ws : List Write). AreCommitted holds custom commit.root ws was is) writes_are done))

      -- parts that stood at what was committed stand at what is, where it came to an outcome
      stands-told : (how : CommitOutcome) (rest new : List Attempt) → CommitComes holds custom count commit.root commit.writes how was is → new ≡ mid.fates ++ told_end t cut (shape mid).desk w how ∷ rest → outcomes_of rest ≡ [] → StandOn holds t custom cut mid.fates new was is
      stands-told Done rest new came added quiet =
          stands-done (came.done refl) new
          (ap committed_batches added ∙ batches_append mid.fates (told_end t cut (shape mid).desk w Done ∷ rest) ∙ ap (λ bs. committed_batches mid.fates ++ bs) (batches_done t cut (shape mid).desk w rest quiet))
      stands-told (Failed component part before after) rest new came added quiet =
          stands-then holds t custom cut mid.fates mid.fates new was is is stands-broken
          (stands-same holds t custom cut mid.fates new is
          (ap committed_batches added ∙ batches_append mid.fates (told_end t cut (shape mid).desk w (Failed component part before after) ∷ rest)
          ∙ ap (λ bs. committed_batches mid.fates ++ bs) (none_batches rest quiet) ∙ append-nil (committed_batches mid.fates)))

    -- so they do by the account of any world that has the coordinator's desk
    pub outcome-stands : (how : CommitOutcome) (rest new : List Attempt) → CommitComes holds custom count commit.root commit.writes how was is → new ≡ mid.fates ++ told_end t cut (shape mid).desk w how ∷ rest → outcomes_of rest ≡ []
        → (words : ℕ → ℕ → ℕ) (all : Station) (h : History) (k : Known) → HasDeskOf mid k → IsInput t cut → LedAt t custom cut words all h k → AreParts t was → StandOn holds t custom cut mid.fates new was is
    outcome-stands how rest new comes added quiet words all h k has input led planned =
        stands-told input (kept_at mid words all h k has led) planned (next_writes words all h k has input led) how rest new comes added quiet

    -- no fate tells of it
    leaves-broken : (fates : List Attempt) → fates ≡ mid.fates → FailOnceAtMost count was is → Leaves holds count t custom cut mid fates was is
    leaves-broken fates same once = record {
      more = [];
      added = same ∙ sym (append-nil mid.fates);
      stands = λ words all h k has input led planned.
          stands-then holds t custom cut mid.fates mid.fates fates was is is
          (stands-broken input (kept_at mid words all h k has led) planned (next_writes words all h k has input led))
          (stands-same holds t custom cut mid.fates fates is (ap committed_batches same));
      strange = λ key found. more.strange commit.root commit.writes was is key texts kept found;
      counted = more.last_counts [] was was is (laws.counts_none was) once;
    }

    -- a fate tells of it, and perhaps others of those that are dropped with it
    leaves-told : (how : CommitOutcome) (rest fates : List Attempt) → CommitComes holds custom count commit.root commit.writes how was is → fates ≡ mid.fates ++ told_end t cut (shape mid).desk w how ∷ rest → outcomes_of rest ≡ [] → Leaves holds count t custom cut mid fates was is
    leaves-told how rest fates comes added quiet = record {
      more = told_end t cut (shape mid).desk w how ∷ rest;
      added = added;
      stands = outcome-stands how rest fates comes added quiet;
      strange = λ key found. more.strange commit.root commit.writes was is key texts kept found;
      counted =
          more.all_told (told_end t cut (shape mid).desk w how ∷ rest) was is
          (laws.counts_then (told_end t cut (shape mid).desk w how ∷ []) rest was is is comes.plans
          (more.told_counts (told_end t cut (shape mid).desk w how) how w.settled was is comes.counted refl) (more.quiet_counts rest is (none_failed_of rest quiet)));
    }

    -- memory was wanted where the outcome was to be told: a fate tells of it or none does
    leaves-undecided : (how : CommitOutcome) (fates : List Attempt) → AddsSome (decided t cut how (shape mid).desk).ended mid.fates fates → CommitComes holds custom count commit.root commit.writes how was is → FailOnceAtMost count was is → Leaves holds count t custom cut mid fates was is
    leaves-undecided how fates some comes once =
        let ends = decided_ends t cut (shape mid).desk w how next in by some.done some.rest ends.0 (sym ends.1 ∙ some.are_first) some.added ends.2
      where
        by : (done left rest : List Attempt) → told_end t cut (shape mid).desk w how ∷ rest ≡ done ++ left → fates ≡ mid.fates ++ done → outcomes_of rest ≡ [] → Leaves holds count t custom cut mid fates was is
        by [] left rest are added quiet = leaves-broken fates (added ∙ append-nil mid.fates) once
        by (a ∷ done) left rest are added quiet =
            let all : told_end t cut (shape mid).desk w how ∷ rest ≡ a ∷ (done ++ left) = are in
            let same : a ≡ told_end t cut (shape mid).desk w how = cc in
            let others : rest ≡ done ++ left = cc in
            leaves-told how done fates comes (added ∙ ap (λ (x : Attempt). mid.fates ++ x ∷ done) same)
            (first_none (outcomes_of done) (outcomes_of left) (sym (outcomes-append done left) ∙ sym (ap outcomes_of others) ∙ quiet))

  -- what an outcome makes of an engine
  outcome_is : (mid new : Engine I g) (how : CommitOutcome) → is_over t cut (shape mid) ≡ false → (shape mid).desk.out ≡ true → outcomes_of new.fates ≡ outcomes_of mid.fates ++ how ∷ [] → Goes tells t custom cut (of_outcome ∷ []) mid new
      → shape new ≡ with_progress t cut (decided t cut how (shape mid).desk) (shape mid)
  outcome_is mid new how going out told goes =
      let some = somewhere (of_outcome ∷ []) mid new goes in
      let k : Known = record { world = shape mid; counts = λ s. 0 } in
      let has : HasOutcomes (outcomes_of new.fates) new.fates = record { rest = []; first = sym (append-nil (outcomes_of new.fates)) } in
      sym some.1
      ∙ ap (λ (b : Bool). (cond b k (step t custom cut some.0 (outcomes_of new.fates) of_outcome k)).world) going
      ∙ outcome_world t custom cut some.0 (outcomes_of new.fates) k
      ∙ ap (λ (h : CommitOutcome). outcome_step t cut h (shape mid)) (next-told (outcomes_of new.fates) mid.fates new.fates how told has)
      ∙ ap (λ (b : Bool). cond b (with_progress t cut (decided t cut how (shape mid).desk) (shape mid)) (shape mid)) out

  -- the outcome of a commit that was ordered
  pub drives-outcome : (laws : Laws count t custom cut) (more : CommitLaws holds count t custom cut) (mid new : Engine I g) (was is : List (StatePart S)) (w : Wait) (commit : Commit) (how : CommitOutcome)
      → is_over t cut (shape mid) ≡ false → (shape mid).desk.out ≡ true → next_to_commit t cut (shape mid).desk ≡ Some w → IsCommitOf (Some w) (Some commit)
      → All HasTextKey commit.writes → AreParts t was → CommitComes holds custom count commit.root commit.writes how was is
      → outcomes_of new.fates ≡ outcomes_of mid.fates ++ how ∷ [] → Goes tells t custom cut (of_outcome ∷ []) mid new → Drives tells holds count t custom cut (of_outcome ∷ []) mid new was is
  drives-outcome laws more mid new was is w commit how going out next ordered texts are comes told goes =
      let shape_is = outcome_is mid new how going out told goes in
      let added : new.fates ≡ mid.fates ++ (decided t cut how (shape mid).desk).ended = ap (λ (x : World). x.fates) shape_is in
      let more_is : goes.more ≡ (decided t cut how (shape mid).desk).ended = append_cancel_left mid.fates goes.more _ (sym goes.added ∙ added) in
      record {
        goes = goes;
        plans = comes.plans;
        outcomes = λ planned good. subst (λ (hs : List CommitOutcome). All (IsOutcome t) hs) (sym told) (All-append (IsOutcome t) (outcomes_of mid.fates) (how ∷ []) good (All-cons (IsOutcome t) how [] (more.outcome how was is planned comes.failed) (All-nil (IsOutcome t))));
        stands = λ words counts outcomes gives has input keeps good led planned.
            let k : Known = record { world = shape mid; counts = counts } in
            let ends = decided_ends t cut (shape mid).desk w how next in
            outcome-stands laws more mid was is w commit next ordered texts comes.kept how ends.0 new.fates comes (added ∙ ap (λ (xs : List Attempt). mid.fates ++ xs) ends.1) ends.2 words (station_of k) led.0 k (record { desk = refl; fates = refl }) input led.1 planned;
        bad = λ key found. more.bad commit.root commit.writes was is key comes.kept found;
        strange = λ key found. more.strange commit.root commit.writes was is key texts comes.kept found;
        counted = subst (λ (xs : List Attempt). FailuresAreCounted count xs was is) (sym more_is) (more.decided_counts (shape mid).desk w how was is next comes.counted);
      }

  -- ---- the coordinator's steps as a whole

  -- whether all is over for the engine's own topology and cut
  ended_here : (mid : Engine I g) → IsReady t cut mid → has_ended mid ≡ is_over t cut (shape mid)
  ended_here mid ready = ap (λ (u : Topology). is_over u (cut_in mid) (shape mid)) ready.seated.of_topology ∙ ap (λ (k : Cut). is_over t k (shape mid)) ready.seated.of_cut

  next_here : (mid : Engine I g) → IsReady t cut mid → next_to_commit (topology_in mid) (cut_in mid) (shape mid).desk ≡ next_to_commit t cut (shape mid).desk
  next_here mid ready = ap (λ (u : Topology). next_to_commit u (cut_in mid) (shape mid).desk) ready.seated.of_topology ∙ ap (λ (k : Cut). next_to_commit t k (shape mid).desk) ready.seated.of_cut

  -- no commit was ordered
  pub drives-unordered : (laws : Laws count t custom cut) (more : CommitLaws holds count t custom cut) (old mid : Engine I g) (parts : List (StatePart S))
      → Goes tells t custom cut (of_turn ∷ []) old mid → IsReady t cut mid → IsIdle mid → Drives tells holds count t custom cut coordinator_steps old mid parts parts
  drives-unordered laws more old mid parts goes ready idle =
      drives-then tells holds count t custom cut laws (of_turn ∷ []) (of_outcome ∷ []) old mid mid parts parts parts (drives-turn more old mid parts goes)
      (drives-still tells holds count t custom cut laws (of_outcome ∷ []) mid mid parts (goes-idle tells t custom cut mid (λ going. idle (ended_here mid ready ∙ going))) (record { coordinator = refl; fates = refl }))

  -- a commit was ordered, and its outcome was told
  pub drives-ordered : (laws : Laws count t custom cut) (more : CommitLaws holds count t custom cut) (old mid new : Engine I g) (was is : List (StatePart S)) (commit : Commit) (how : CommitOutcome)
      → Goes tells t custom cut (of_turn ∷ []) old mid → IsReady t cut mid → IsOrder commit mid → All HasTextKey commit.writes → AreParts t was → CommitComes holds custom count commit.root commit.writes how was is
      → outcomes_of new.fates ≡ outcomes_of mid.fates ++ how ∷ [] → Goes tells (topology_in mid) custom (cut_in mid) (of_outcome ∷ []) mid new → Drives tells holds count t custom cut coordinator_steps old new was is
  drives-ordered laws more old mid new was is commit how goes ready order texts are comes told after =
      drives-then tells holds count t custom cut laws (of_turn ∷ []) (of_outcome ∷ []) old mid new was was is (drives-turn more old mid was goes)
      (drives-outcome laws more mid new was is order.wait commit how (sym (ended_here mid ready) ∙ order.ordered.goes_on) order.ordered.out (sym (next_here mid ready) ∙ order.ordered.next) order.is texts are comes told
      (goes_there t cut mid ready tells custom (of_outcome ∷ []) new after))

  -- a commit was ordered, and met a bad cell
  pub breaks-ordered : (laws : Laws count t custom cut) (more : CommitLaws holds count t custom cut) (key : List ℕ) (old mid : Engine I g) (was is : List (StatePart S)) (commit : Commit)
      → Goes tells t custom cut (of_turn ∷ []) old mid → IsReady t cut mid → IsOrder commit mid → All HasTextKey commit.writes → ArePerhapsCommitted holds custom commit.root commit.writes was is → FailOnceAtMost count was is
      → IsBadAt holds was key → Breaks tells holds count t custom cut coordinator_steps key old mid was is
  breaks-ordered laws more key old mid was is commit goes ready order texts kept once bad = record {
    steps = of_turn ∷ [];
    rest = of_outcome ∷ [];
    first = refl;
    between = was;
    drives = drives-turn more old mid was goes;
    leaves = leaves-broken laws more mid was is order.wait commit (sym (next_here mid ready) ∙ order.ordered.next) order.is texts kept mid.fates refl once;
    bad = bad;
  }

  -- or it wanted memory
  pub wants-ordered : (laws : Laws count t custom cut) (more : CommitLaws holds count t custom cut) (old mid : Engine I g) (was is : List (StatePart S)) (commit : Commit)
      → Goes tells t custom cut (of_turn ∷ []) old mid → IsReady t cut mid → IsOrder commit mid → All HasTextKey commit.writes → ArePerhapsCommitted holds custom commit.root commit.writes was is → FailOnceAtMost count was is
      → WantsMemory tells holds count t custom cut old mid.fates was is
  wants-ordered laws more old mid was is commit goes ready order texts kept once = record {
    steps = of_turn ∷ [];
    mid = mid;
    between = was;
    drives = drives-turn more old mid was goes;
    leaves = leaves-broken laws more mid was is order.wait commit (sym (next_here mid ready) ∙ order.ordered.next) order.is texts kept mid.fates refl once;
  }

  -- or memory was wanted where its outcome was to be told
  pub wants-undecided : (laws : Laws count t custom cut) (more : CommitLaws holds count t custom cut) (old mid : Engine I g) (fates : List Attempt) (was is : List (StatePart S)) (commit : Commit) (how : CommitOutcome)
      → Goes tells t custom cut (of_turn ∷ []) old mid → IsReady t cut mid → IsOrder commit mid → All HasTextKey commit.writes → CommitComes holds custom count commit.root commit.writes how was is → FailOnceAtMost count was is
      → DecidesShort how mid fates → WantsMemory tells holds count t custom cut old fates was is
  wants-undecided laws more old mid fates was is commit how goes ready order texts comes once short = record {
    steps = of_turn ∷ [];
    mid = mid;
    between = was;
    drives = drives-turn more old mid was goes;
    leaves =
        leaves-undecided laws more mid was is order.wait commit (sym (next_here mid ready) ∙ order.ordered.next) order.is texts comes.kept how fates
        (subst (λ (u : Topology). AddsSome (decided u cut how (shape mid).desk).ended mid.fates fates) ready.seated.of_topology
        (subst (λ (k : Cut). AddsSome (decided (topology_in mid) k how (shape mid).desk).ended mid.fates fates) ready.seated.of_cut short)) comes once;
  }

  -- memory was wanted in the turn
  pub wants-turn : (laws : Laws count t custom cut) (more : CommitLaws holds count t custom cut) (old : Engine I g) (fates : List Attempt) (parts : List (StatePart S)) (verdict : Option Verdict) (ticks : ℕ)
      → AddsSome (turned t cut verdict ticks (shape old).shut (shape old).desk).ended old.fates fates → WantsMemory tells holds count t custom cut old fates parts parts
  wants-turn laws more old fates parts verdict ticks some =
      let quiet : outcomes_of some.done ≡ [] = some_none (turned t cut verdict ticks (shape old).shut (shape old).desk).ended old.fates fates (none_turned t cut verdict ticks (shape old).shut (shape old).desk) some in record {
        steps = [];
        mid = old;
        between = parts;
        drives = drives-none tells holds count t custom cut laws old parts;
        leaves = record {
          more = some.done;
          added = some.added;
          stands = λ words all h k has input led planned. stands-same holds t custom cut old.fates fates parts (batches_quiet old.fates some.done fates some.added quiet);
          strange = λ key found. found;
          counted = more.all_told some.done parts parts (more.quiet_counts some.done parts (none_failed_of some.done quiet));
        };
      }

  -- ---- what a follower is told

  module _ {W : Type 0} (ftells : W → List Commit → Type 0) (takes : W → Option ℕ) (fcount : W → ℕ) (old mid new : Engine I g) (goes : Goes tells t custom cut (of_turn ∷ []) old mid) where
    -- nothing in a turn
    pub follows-turn : (w : W) → Follows ftells fcount old.fates mid.fates w w
    follows-turn w =
        let q = turn_quiet old mid goes in
        follows-quiet ftells fcount old.fates q.more mid.fates w q.added (none_done_of q.more q.quiet)

    turn_many : length (committed_txids mid.fates) ≡ length (committed_txids old.fates)
    turn_many =
        let q = turn_quiet old mid goes in
        let all : length (committed_txids mid.fates) ≡ length (committed_txids old.fates) + length (committed q.more) = ap (λ (fs : List Attempt). length (committed_txids fs)) q.added ∙ many_committed old.fates q.more in
        let none : length (committed q.more) ≡ 0 = ap (λ (fs : List Attempt). length fs) (none_done_of q.more q.quiet) in
        omega arith

    pub turn_txid : next_txid cut mid.fates ≡ next_txid cut old.fates
    turn_txid = ap (λ (n : ℕ). cut.start + n + 1) turn_many

    module _ (commit : Commit) (ready : IsReady t cut mid) (order : IsOrder commit mid) where
      w_next : next_to_commit t cut (shape mid).desk ≡ Some order.wait
      w_next = sym (next_here mid ready) ∙ order.ordered.next

      -- the commit that is ordered is of the transaction that is taken next
      pub order_taken : (w : W) → IsTaken (next_txid cut old.fates) (takes w) → IsTaken commit.root.txid (takes w)
      order_taken w taken =
          let here : (shape mid).desk.committed + 1 ≡ next_txid cut mid.fates = ap (λ (n : ℕ). n + 1) ready.kept.commits in
          taken_same (next_txid cut old.fates) commit.root.txid (takes w) (order.txid ∙ here ∙ turn_txid) taken

      -- the attempt whose commit was done ended by it
      by_commit : IsCommitBy (told_end t cut (shape mid).desk order.wait Done) commit
      by_commit = record {
        root = order.is.0;
        spans = order.is.1;
        writes = λ list is. order.is.2 list (by order.wait.settled refl (settled_next t cut (shape mid).desk order.wait w_next) list is);
      }
        where
          by : (o : Option (List AckMsg)) → order.wait.settled ≡ o → is_some o ≡ true → (list : List AckMsg) → end_by t cut Done o ≡ Committed list → order.wait.settled ≡ Some list
          by None same some list is = absurd (true≢false (sym some))
          by (Some l) same some list is = same ∙ ap Some (let e : Committed l ≡ Committed list = is in cc)

      done_are : AreCommitsOf (told_end t cut (shape mid).desk order.wait Done ∷ []) (commit ∷ [])
      done_are =
          subst (λ (b : Bool). AllZip IsCommitBy (cond b (told_end t cut (shape mid).desk order.wait Done ∷ []) []) (commit ∷ [])) (sym (done_is t cut order.wait.settled)) (by_commit, tt)

      done_many : length (committed (told_end t cut (shape mid).desk order.wait Done ∷ [])) ≡ 1
      done_many = ap (λ (b : Bool). length (cond b (told_end t cut (shape mid).desk order.wait Done ∷ []) [])) (done_is t cut order.wait.settled)

      -- the fates after an outcome
      ends_added : (how : CommitOutcome) → Goes tells t custom cut (of_outcome ∷ []) mid new → outcomes_of new.fates ≡ outcomes_of mid.fates ++ how ∷ [] → new.fates ≡ mid.fates ++ (decided t cut how (shape mid).desk).ended
      ends_added how after told = ap (λ (x : World). x.fates) (outcome_is mid new how (sym (ended_here mid ready) ∙ order.ordered.goes_on) order.ordered.out told after)

      done_added : Goes tells t custom cut (of_outcome ∷ []) mid new → outcomes_of new.fates ≡ outcomes_of mid.fates ++ Done ∷ [] → new.fates ≡ mid.fates ++ told_end t cut (shape mid).desk order.wait Done ∷ []
      done_added after told = ends_added Done after told ∙ ap (λ (o : Option Wait). mid.fates ++ (decided_by t cut Done o (shape mid).desk).ended) w_next

      -- a commit that failed is no commit
      failed_quiet : (component part before later : ℕ) → Goes tells t custom cut (of_outcome ∷ []) mid new → outcomes_of new.fates ≡ outcomes_of mid.fates ++ Failed component part before later ∷ []
          → (more : List Attempt) × (new.fates ≡ mid.fates ++ more) × (committed more ≡ [])
      failed_quiet component part before later after told =
          let ends = decided_ends t cut (shape mid).desk order.wait (Failed component part before later) w_next in (
            told_end t cut (shape mid).desk order.wait (Failed component part before later) ∷ ends.0,
            ends_added (Failed component part before later) after told ∙ ap (λ (xs : List Attempt). mid.fates ++ xs) ends.1,
            none_done_of ends.0 ends.2,
          )

      -- what a follower was told of it
      pub followed-ordered : (how : CommitOutcome) (r : Result (Unit {0}) RunFault) (x y : W) → Goes tells t custom cut (of_outcome ∷ []) mid new → outcomes_of new.fates ≡ outcomes_of mid.fates ++ how ∷ []
          → TellsOf ftells takes fcount how commit r x y → Followed ftells fcount r old.fates new.fates x y
      followed-ordered Done (Ok ok) x y after told was =
          let next : Follows ftells fcount mid.fates new.fates x y = record {
            more = told_end t cut (shape mid).desk order.wait Done ∷ [];
            added = done_added after told;
            commits = commit ∷ [];
            are = done_are;
            told = was.told;
            quiet = was.quiet;
          } in
          follows-then ftells fcount old.fates mid.fates new.fates x x y (follows-turn x) next
      followed-ordered Done (Err (fault.BadCell key)) x y after told was = absurd was
      followed-ordered Done (Err (fault.Follow txid)) x y after told was =
          let last : FailsAtLast ftells fcount txid mid.fates new.fates x y = record {
            more = [];
            last = told_end t cut (shape mid).desk order.wait Done;
            added = done_added after told;
            done = done_is t cut order.wait.settled;
            number = sym (ap (λ (k : Root). k.txid) order.is.0) ∙ was.number;
            commits = [];
            are = tt;
            commit = commit;
            is_last = by_commit;
            told = λ earlier is. either earlier (was.perhaps earlier is);
            failed = was.failed;
          } in
          fails-then ftells fcount txid old.fates mid.fates new.fates x x y (follows-turn x) last
        where
          either : (earlier : List Commit) → ftells y earlier ⊎ ftells y (earlier ++ commit ∷ []) → ftells y (earlier ++ []) ⊎ ftells y (earlier ++ commit ∷ [])
          either earlier (inl is) = inl (subst (λ (cs : List Commit). ftells y cs) (sym (append-nil earlier)) is)
          either earlier (inr is) = inr is
      followed-ordered Done (Err fault.Memory) x y after told was = was
      followed-ordered (Failed component part before later) (Ok ok) x y after told was =
          let q = failed_quiet component part before later after told in
          let all = follows-then ftells fcount old.fates mid.fates new.fates x x x (follows-turn x) (follows-quiet ftells fcount mid.fates q.0 new.fates x q.1 q.2) in
          subst (λ (w : W). Follows ftells fcount old.fates new.fates x w) (sym was) all
      followed-ordered (Failed component part before later) (Err why) x y after told was = absurd was

      -- and the transaction that it takes next
      pub taken-ordered : (how : CommitOutcome) (r : Result (Unit {0}) RunFault) (x y : W) → Goes tells t custom cut (of_outcome ∷ []) mid new → outcomes_of new.fates ≡ outcomes_of mid.fates ++ how ∷ []
          → TellsOf ftells takes fcount how commit r x y → IsTaken (next_txid cut old.fates) (takes x) → OnOk r (IsTaken (next_txid cut new.fates) (takes y))
      taken-ordered Done (Ok ok) x y after told was taken =
          let all : length (committed_txids new.fates) ≡ length (committed_txids mid.fates) + length (committed (told_end t cut (shape mid).desk order.wait Done ∷ [])) =
          ap (λ (fs : List Attempt). length (committed_txids fs)) (done_added after told) ∙ many_committed mid.fates (told_end t cut (shape mid).desk order.wait Done ∷ []) in
          let one = done_many in
          let turn = turn_many in
          let more : next_txid cut new.fates ≡ next_txid cut old.fates + 1 = omega arith in
          taken_next (next_txid cut old.fates) (next_txid cut new.fates) (takes x) (takes y) was.takes_next more taken
      taken-ordered (Failed component part before later) (Ok ok) x y after told was taken =
          let q = failed_quiet component part before later after told in
          let all : length (committed_txids new.fates) ≡ length (committed_txids mid.fates) + length (committed q.0) = ap (λ (fs : List Attempt). length (committed_txids fs)) q.1 ∙ many_committed mid.fates q.0 in
          let none : length (committed q.0) ≡ 0 = ap (λ (fs : List Attempt). length fs) q.2 in
          let turn = turn_many in
          let same : next_txid cut new.fates ≡ next_txid cut old.fates = omega arith in
          subst (λ (w : W). IsTaken (next_txid cut new.fates) (takes w)) (sym was) (taken_same (next_txid cut old.fates) (next_txid cut new.fates) (takes x) same taken)
      taken-ordered how (Err why) x y after told was taken = tt

      -- or it failed at it
      pub unfollowed-ordered : (was is : List (StatePart S)) (how : CommitOutcome) (r : Result (Unit {0}) RunFault) (x y : W) (txid : ℕ) → Goes tells t custom cut (of_outcome ∷ []) mid new → outcomes_of new.fates ≡ outcomes_of mid.fates ++ how ∷ []
          → TellsOf ftells takes fcount how commit r x y → r ≡ Err (fault.Follow txid)
          → Drives tells holds count t custom cut coordinator_steps old new was is → WantsMemory tells holds count t custom cut old mid.fates was is
          → Unfollowed tells holds count t custom cut coordinator_steps txid old new was is
      unfollowed-ordered was is Done (Ok ok) x y txid after told tells_so failed drives less = absurd (let e : Ok ok ≡ Err (fault.Follow txid) = failed in cc)
      unfollowed-ordered was is Done (Err (fault.BadCell key)) x y txid after told tells_so failed drives less = absurd tells_so
      unfollowed-ordered was is Done (Err fault.Memory) x y txid after told tells_so failed drives less = absurd (let e : Err fault.Memory ≡ Err (fault.Follow txid) = failed in cc)
      unfollowed-ordered was is Done (Err (fault.Follow own)) x y txid after told tells_so failed drives less =
          let same : own ≡ txid = (let e : Err (fault.Follow own) ≡ Err (fault.Follow txid) = failed in cc) in record {
            steps = coordinator_steps;
            rest = [];
            first = refl;
            drives = drives;
            ends = record {
              earlier = mid.fates;
              last = told_end t cut (shape mid).desk order.wait Done;
              added = done_added after told;
              done = done_is t cut order.wait.settled;
              number = sym (ap (λ (k : Root). k.txid) order.is.0) ∙ tells_so.number ∙ same;
            };
            less = less;
          }
      unfollowed-ordered was is (Failed component part before later) (Ok ok) x y txid after told tells_so failed drives less = absurd (let e : Ok ok ≡ Err (fault.Follow txid) = failed in cc)
      unfollowed-ordered was is (Failed component part before later) (Err why) x y txid after told tells_so failed drives less = absurd tells_so

-- a follower meets no bad cell
pub tells_no_cell : {W : Type 0} (ftells : W → List Commit → Type 0) (takes : W → Option ℕ) (fcount : W → ℕ) (how : CommitOutcome) (commit : Commit) (r : Result (Unit {0}) RunFault) (x y : W) (key : List ℕ) → TellsOf ftells takes fcount how commit r x y → r ≡ Err (fault.BadCell key) → ⊥
tells_no_cell ftells takes fcount how commit (Ok ok) x y key was is = cc
tells_no_cell ftells takes fcount Done commit (Err (fault.BadCell k)) x y key was is = was
tells_no_cell ftells takes fcount Done commit (Err (fault.Follow txid)) x y key was is = cc
tells_no_cell ftells takes fcount Done commit (Err fault.Memory) x y key was is = cc
tells_no_cell ftells takes fcount (Failed component part before later) commit (Err why) x y key was is = was
