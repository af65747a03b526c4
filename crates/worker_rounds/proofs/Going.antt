-- An engine that goes on beside boxes, by one thing after another.
use Rattle.std.proofs.Common.{◌≡◌, ◌<◌, ℕ, ◌+◌, List, [], ◌∷◌, ◌++◌, All, length, map, append_assoc, length-append, sym, refl, ap, subst, ◌∙◌, arith}
use Rattle.std.specs.List.{range_with_len}
use Rattle.event_worlds.specs.attempt_fates.declared.fates.Attempt.{Attempt}
use Rattle.event_worlds.specs.attempt_fates.Fates.{committed_batches}
use Rattle.batch_commits.specs.Standing.{FailuresAreCounted}
use Rattle.event_worlds.specs.bolt_ops.RowOp.{Custom}
use Rattle.worker_stretches.specs.box_rows.declared.mail.Mail.{Mail}
use Rattle.event_worlds.specs.commit_turns.Outcomes.{IsOutcome}
use Rattle.worker_stretches.specs.event_engine.declared.engine.Engine.{Engine}
use Rattle.worker_stretches.specs.event_engine.Engines.{Gives, HasOutcomes, IsStill, shape}
use Rattle.worker_stretches.proofs.event_engine.GoesLemmas.{draws-then, gives-parts, outcomes-append}
use Rattle.event_worlds.specs.Worlds.{outcomes_of}
use Rattle.schedule_core.proofs.Drives.{stands-same, stands-then}
use Rattle.schedule_core.specs.Laws.{Laws}
use Rattle.event_worlds.specs.state_parts.declared.answer.CommitOutcome.{CommitOutcome}
use Rattle.event_worlds.specs.state_parts.declared.parts.StatePart.{StatePart}
use Rattle.event_worlds.specs.storm_ids.declared.ids.Ids.{Ghosts}
use Rattle.storm_stores.specs.CellMaps.{CellMap}
use Rattle.task_queues.specs.declared.pass.Pass.{Pass}
use Rattle.event_worlds.specs.topology_plan.Topology.{Topology}
use Rattle.event_worlds.specs.taken_records.Cuts.{Cut}
use Rattle.worker_rounds.specs.Running.{MovesOn, RunsOn}
use Rattle.worker_stretches.specs.Standing.{GoesOn}
use Rattle.worker_stretches.specs.world_progress.Rounding.{IsOpen}

-- outcomes that begin with those of more fates begin with those of the first
pub first-outcomes : (outcomes : List CommitOutcome) (fates more all : List Attempt) → all ≡ fates ++ more → HasOutcomes outcomes all → HasOutcomes outcomes fates
first-outcomes outcomes fates more all is has = record {
  rest = outcomes_of more ++ has.rest;
  first = has.first ∙ ap (λ xs. xs ++ has.rest) (ap outcomes_of is ∙ outcomes-append fates more) ∙ append_assoc (outcomes_of fates) (outcomes_of more) has.rest;
}

-- what is added to a list that stays as it is
none-added : {X : Type 0} (xs ys : List X) → xs ≡ xs ++ ys → ys ≡ []
none-added [] ys is = sym is
none-added {X} (x ∷ xs) ys is = none-added xs ys (let e : x ∷ xs ≡ x ∷ (xs ++ ys) = is in cc)

-- words that were counted on so give what is given next
pub gives-next : (words : ℕ → ℕ → ℕ) (counts now : ℕ → ℕ) (xs ys : ℕ → List ℕ) → ((s : ℕ) → now s ≡ counts s + length (xs s)) → Gives words (λ s. counts s + length (xs s)) ys → Gives words now ys
gives-next words counts now xs ys counted gives = λ s. ap (λ (n : ℕ). map (words s) (range_with_len n (length (ys s)))) (counted s) ∙ gives s

module _ {I : Type 0} {g : Ghosts I} (tells : I → (ℕ → ℕ) → ℕ → Type 0) (t : Topology) (custom : Custom) (cut : Cut) where
  -- without partitions that are shut or opened
  pub moves-by : (none : Type 0) (n : ℕ) (a b : Engine I g) (p q : List (Pass Mail)) → GoesOn tells t custom cut n a b p q [] [] → MovesOn tells t custom cut none n a b p q
  moves-by none n a b p q goes = record {
    given = goes.given;
    draws = goes.draws;
    off = goes.none;
    more = goes.more;
    added = goes.added;
    ticks = goes.ticks;
    over = goes.over;
    on = λ words counts outcomes gives has input keeps fine h stands.
        let one = goes.on words counts outcomes gives has input keeps fine h stands in record {
          history = one.history;
          now = one.now;
          counted = one.counted;
          stands = one.stands;
          open_on = λ is opened some. one.shut ∙ opened some;
          rose = λ is opens can all few open_end. one.rose opens can all few open_end;
        };
  }

  -- what says that no partition was shut follows from something else
  pub moves-where : (none other : Type 0) → (other → none) → (n : ℕ) (a b : Engine I g) (p q : List (Pass Mail)) → MovesOn tells t custom cut none n a b p q → MovesOn tells t custom cut other n a b p q
  moves-where none other says n a b p q moves = record {
    given = moves.given;
    draws = moves.draws;
    off = moves.off;
    more = moves.more;
    added = moves.added;
    ticks = moves.ticks;
    over = moves.over;
    on = λ words counts outcomes gives has input keeps fine h stands.
        let one = moves.on words counts outcomes gives has input keeps fine h stands in record {
          history = one.history;
          now = one.now;
          counted = one.counted;
          stands = one.stands;
          open_on = λ is opened. one.open_on (says is) opened;
          rose = λ is opens can all few open_end. one.rose (λ some. says (is some)) opens can all few open_end;
        };
  }

  -- one after the other
  pub moves-then : (none : Type 0) (m n : ℕ) (a b c : Engine I g) (p q r : List (Pass Mail))
      → MovesOn tells t custom cut none m a b p q → MovesOn tells t custom cut none n b c q r → MovesOn tells t custom cut none (m + n) a c p r
  moves-then none m n a b c p q r first second = record {
    given = λ s. first.given s ++ second.given s;
    draws = λ s source at.
        let d = first.draws s source at in
        let e = second.draws s d.0 d.1 in (e.0, e.1, draws-then tells source d.0 e.0 (first.given s) (second.given s) d.2 e.2);
    off = λ s at.
        let one = first.off s at in
        let two = second.off s one.1 in ((λ i. one.0 i ++ two.0 i), two.1);
    more = first.more ++ second.more;
    added = second.added ∙ ap (λ (fs : List Attempt). fs ++ second.more) first.added ∙ append_assoc a.fates first.more second.more;
    ticks = (let i = first.ticks in let j = second.ticks in omega arith);
    over = λ over. second.over (first.over over);
    on = λ words counts outcomes gives has input keeps fine h stands.
        let both = gives-parts words counts first.given second.given gives in
        let one = first.on words counts outcomes both.0 (first-outcomes outcomes b.fates second.more c.fates second.added has) input keeps fine h stands in
        let two = second.on words one.now outcomes (gives-next words counts one.now first.given second.given one.counted both.1) has input keeps fine one.history one.stands in record {
          history = two.history;
          now = two.now;
          counted = λ s. two.counted s ∙ (let e = one.counted s in let len = length-append (first.given s) (second.given s) in omega arith);
          stands = two.stands;
          open_on = λ is opened. two.open_on is (one.open_on is opened);
          rose = λ is opens can all few open_end.
              (let j = second.ticks in
              let none_is : 0 < m + n → none = is in
              let opened : 0 < m + n → IsOpen cut (shape a) = opens in
              let i = one.rose (λ more. none_is (omega arith)) (λ more. opened (omega arith)) can all (omega arith) (λ over. open_end (second.over over)) in
              let k = two.rose (λ more. none_is (omega arith)) (λ more. one.open_on (none_is (omega arith)) (opened (omega arith))) can all few open_end in omega arith);
        };
  }

module _ {I S : Type 0} {g : Ghosts I} (tells : I → (ℕ → ℕ) → ℕ → Type 0) (holds : S → CellMap → Type 0) (count : S → ℕ) (t : Topology) (custom : Custom) (cut : Cut) where
  -- what says that no partition was shut follows from something else
  pub runs-where : (none other : Type 0) → (other → none) → (n : ℕ) (old new : Engine I g) (p q : List (Pass Mail)) (was is : List (StatePart S)) → RunsOn tells holds count t custom cut none n old new p q was is → RunsOn tells holds count t custom cut other n old new p q was is
  unfolding moves-where
  runs-where none other says n old new p q was is runs = record {
    goes = moves-where tells t custom cut none other says n old new p q runs.goes;
    plans = runs.plans;
    outcomes = runs.outcomes;
    stands = runs.stands;
    bad = runs.bad;
    strange = runs.strange;
    counted = runs.counted;
  }

module _ {I S : Type 0} {g : Ghosts I} (tells : I → (ℕ → ℕ) → ℕ → Type 0) (holds : S → CellMap → Type 0) (count : S → ℕ) (t : Topology) (custom : Custom) (cut : Cut) (laws : Laws count t custom cut) where
  -- an engine that goes on leaves parts alone where its coordinator and its fates stay as they are
  pub runs-quiet : (none : Type 0) (least : ℕ) (old new : Engine I g) (p q : List (Pass Mail)) (parts : List (StatePart S)) → IsStill old new
      → MovesOn tells t custom cut none least old new p q → RunsOn tells holds count t custom cut none least old new p q parts parts
  runs-quiet none least old new p q parts still goes = record {
    goes = goes;
    plans = refl;
    outcomes = λ are good. subst (λ (fs : List Attempt). All (IsOutcome t) (outcomes_of fs)) (sym still.fates) good;
    stands = λ words counts outcomes gives has input keeps good h stands planned. stands-same holds t custom cut old.fates new.fates parts (ap committed_batches still.fates);
    bad = λ key found. found;
    strange = λ key found. found;
    counted = subst (λ (xs : List Attempt). FailuresAreCounted count xs parts parts) (sym (none-added old.fates goes.more (sym still.fates ∙ goes.added))) (laws.counts_none parts);
  }

  -- one run after the other
  pub runs-then : (none : Type 0) (m n : ℕ) (a b c : Engine I g) (p q r : List (Pass Mail)) (u v w : List (StatePart S))
      → RunsOn tells holds count t custom cut none m a b p q u v → RunsOn tells holds count t custom cut none n b c q r v w → RunsOn tells holds count t custom cut none (m + n) a c p r u w
  unfolding moves-then
  runs-then none m n a b c p q r u v w first second = record {
    goes = moves-then tells t custom cut none m n a b c p q r first.goes second.goes;
    plans = second.plans ∙ first.plans;
    outcomes = λ are good. second.outcomes (first.plans ∙ are) (first.outcomes are good);
    stands = λ words counts outcomes gives has input keeps good h stands planned.
        let both = gives-parts words counts first.goes.given second.goes.given gives in
        let had = first-outcomes outcomes b.fates second.goes.more c.fates second.goes.added has in
        let one = first.goes.on words counts outcomes both.0 had input keeps good h stands in
        stands-then holds t custom cut a.fates b.fates c.fates u v w (first.stands words counts outcomes both.0 had input keeps good h stands planned)
        (second.stands words one.now outcomes (gives-next words counts one.now first.goes.given second.goes.given one.counted both.1) has input keeps good one.history one.stands (first.plans ∙ planned));
    bad = λ key found. first.bad key (second.bad key found);
    strange = λ key found. first.strange key (second.strange key found);
    counted = laws.counts_then first.goes.more second.goes.more u v w first.plans first.counted second.counted;
  }

  -- what both gave the first one gave, and then the second
  pub gives-first : (none : Type 0) (m n : ℕ) (a b c : Engine I g) (p q r : List (Pass Mail)) (u v w : List (StatePart S)) (first : RunsOn tells holds count t custom cut none m a b p q u v) (second : RunsOn tells holds count t custom cut none n b c q r v w)
      → (words : ℕ → ℕ → ℕ) (counts : ℕ → ℕ) → Gives words counts (runs-then none m n a b c p q r u v w first second).goes.given → Gives words counts first.goes.given
  unfolding runs-then moves-then
  gives-first none m n a b c p q r u v w first second words counts gives = (gives-parts words counts first.goes.given second.goes.given gives).0
