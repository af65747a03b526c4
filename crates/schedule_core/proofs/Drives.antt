-- Steps of an engine over parts, one after another.
use Rattle.std.proofs.Common.{◌≡◌, ℕ, true, List, [], ◌∷◌, ◌++◌, All, refl, sym, ap, subst, ◌∙◌, append_assoc, append-nil}
use Rattle.event_worlds.specs.attempt_fates.declared.fates.Attempt.{Attempt}
use Rattle.event_worlds.specs.attempt_fates.Fates.{committed_batches}
use Rattle.batch_commits.specs.Standing.{FailuresAreCounted, PartsStand}
use Rattle.event_worlds.specs.bolt_ops.RowOp.{Custom}
use Rattle.event_worlds.specs.commit_turns.Outcomes.{IsOutcome}
use Rattle.event_engine.proofs.GoesLemmas.{gives-both, goes-none, goes-over, goes-then, then-more}
use Rattle.event_engine.specs.declared.engine.Engine.{Engine}
use Rattle.event_engine.specs.Engines.{Goes, IsStill, shape}
use Rattle.event_worlds.specs.Accounted.{Accounted}
use Rattle.event_worlds.specs.Worlds.{Known, Step, World, is_over, outcomes_of, run}
use Rattle.event_worlds.specs.record_spans.declared.span.Span.{Span}
use Rattle.schedule_core.specs.Driving.{Breaks, Drives, Leaves, StandOn, WantsMemory}
use Rattle.schedule_core.specs.Following.{Unfollowed}
use Rattle.schedule_core.specs.Laws.{Laws}
use Rattle.event_worlds.specs.state_parts.declared.parts.StatePart.{StatePart}
use Rattle.event_worlds.specs.storm_ids.declared.ids.Ids.{Ghosts}
use Rattle.storm_stores.specs.CellMaps.{CellMap}
use Rattle.event_worlds.specs.topology_plan.Topology.{Topology}
use Rattle.event_worlds.specs.taken_records.Cuts.{Cut}

-- what is added to a list that stays as it is
none_added : {X : Type 0} (xs ys : List X) → xs ≡ xs ++ ys → ys ≡ []
none_added [] ys is = sym is
none_added {X} (x ∷ xs) ys is = none_added xs ys (let e : x ∷ xs ≡ x ∷ (xs ++ ys) = is in cc)

-- ---- parts that stand on

module _ {S : Type 0} (holds : S → CellMap → Type 0) (t : Topology) (custom : Custom) (cut : Cut) where
  -- no batch was committed, and the parts were left alone
  pub stands-same : (old new : List Attempt) (parts : List (StatePart S)) → committed_batches new ≡ committed_batches old → StandOn holds t custom cut old new parts parts
  stands-same old new parts same = λ before are stand. subst (λ (bs : List (List Span)). PartsStand holds t custom cut (before ++ bs) parts) (sym same) stand

  pub stands-then : (a b c : List Attempt) (p q r : List (StatePart S)) → StandOn holds t custom cut a b p q → StandOn holds t custom cut b c q r → StandOn holds t custom cut a c p r
  stands-then a b c p q r first second = λ before are stand. second before are (first before are stand)

-- ---- steps

module _ {I S : Type 0} {g : Ghosts I} (tells : I → (ℕ → ℕ) → ℕ → Type 0) (holds : S → CellMap → Type 0) (count : S → ℕ) (t : Topology) (custom : Custom) (cut : Cut) (laws : Laws count t custom cut) where
  -- steps that leave the coordinator and the fates alone
  pub drives-still : (steps : List Step) (old new : Engine I g) (parts : List (StatePart S)) → Goes tells t custom cut steps old new → IsStill old new → Drives tells holds count t custom cut steps old new parts parts
  drives-still steps old new parts goes still = record {
    goes = goes;
    plans = refl;
    outcomes = λ are good. subst (λ (fs : List Attempt). All (IsOutcome t) (outcomes_of fs)) (sym still.fates) good;
    stands = λ words counts outcomes gives has input keeps good led planned. stands-same holds t custom cut old.fates new.fates parts (ap committed_batches still.fates);
    bad = λ key found. found;
    strange = λ key found. found;
    counted = subst (λ (xs : List Attempt). FailuresAreCounted count xs parts parts) (sym (none_added old.fates goes.more (sym still.fates ∙ goes.added))) (laws.counts_none parts);
  }

  pub drives-none : (e : Engine I g) (parts : List (StatePart S)) → Drives tells holds count t custom cut [] e e parts parts
  drives-none e parts = drives-still [] e e parts (goes-none tells t custom cut e) (record { coordinator = refl; fates = refl })

  pub drives-over : (steps : List Step) (e : Engine I g) (parts : List (StatePart S)) → is_over t cut (shape e) ≡ true → Drives tells holds count t custom cut steps e e parts parts
  drives-over steps e parts over = drives-still steps e e parts (goes-over tells t custom cut steps e over) (record { coordinator = refl; fates = refl })

  pub drives-then : (xs ys : List Step) (a b c : Engine I g) (p q r : List (StatePart S)) → Drives tells holds count t custom cut xs a b p q → Drives tells holds count t custom cut ys b c q r → Drives tells holds count t custom cut (xs ++ ys) a c p r
  drives-then xs ys a b c p q r first second = record {
    goes = goes-then tells t custom cut xs ys a b c first.goes second.goes;
    plans = second.plans ∙ first.plans;
    outcomes = λ are good. second.outcomes (first.plans ∙ are) (first.outcomes are good);
    stands = λ words counts outcomes gives has input keeps good led planned.
        let both = gives-both tells t custom cut xs ys a b c first.goes second.goes words counts outcomes gives has in
        let start : Known = record { world = shape a; counts = counts } in
        let mid : Known = run t custom cut words outcomes xs start in
        let led_mid : Accounted t custom cut words mid = laws.accounted words outcomes xs start input keeps good led in
        let world_is = (first.goes.runs words counts outcomes both.0 both.1).0 in
        let led_next = subst (λ (w : World). Accounted t custom cut words (record { world = w; counts = mid.counts })) world_is led_mid in
        stands-then holds t custom cut a.fates b.fates c.fates p q r (first.stands words counts outcomes both.0 both.1 input keeps good led planned)
        (second.stands words mid.counts outcomes both.2 has input keeps good led_next (first.plans ∙ planned));
    bad = λ key found. first.bad key (second.bad key found);
    strange = λ key found. first.strange key (second.strange key found);
    counted = subst (λ (xs : List Attempt). FailuresAreCounted count xs p r) (sym (then-more tells t custom cut xs ys a b c first.goes second.goes)) (laws.counts_then first.goes.more second.goes.more p q r first.plans first.counted second.counted);
  }

  -- steps, and then some of further ones, up to a bad cell
  pub breaks-then : (xs ys : List Step) (key : List ℕ) (a b c : Engine I g) (p q r : List (StatePart S)) → Drives tells holds count t custom cut xs a b p q → Breaks tells holds count t custom cut ys key b c q r → Breaks tells holds count t custom cut (xs ++ ys) key a c p r
  breaks-then xs ys key a b c p q r first second = record {
    steps = xs ++ second.steps;
    rest = second.rest;
    first = ap (λ (zs : List Step). xs ++ zs) second.first ∙ sym (append_assoc xs second.steps second.rest);
    between = second.between;
    drives = drives-then xs second.steps a b c p q second.between first second.drives;
    leaves = second.leaves;
    bad = first.bad key second.bad;
  }

  -- or up to where memory was wanted
  pub wants-then : (xs : List Step) (a b : Engine I g) (fates : List Attempt) (p q r : List (StatePart S)) → Drives tells holds count t custom cut xs a b p q → WantsMemory tells holds count t custom cut b fates q r → WantsMemory tells holds count t custom cut a fates p r
  wants-then xs a b fates p q r first second = record {
    steps = xs ++ second.steps;
    mid = second.mid;
    between = second.between;
    drives = drives-then xs second.steps a b second.mid p q second.between first second.drives;
    leaves = second.leaves;
  }

  -- or up to a commit at which a follower failed
  pub unfollowed-then : (xs ys : List Step) (txid : ℕ) (a b c : Engine I g) (p q r : List (StatePart S)) → Drives tells holds count t custom cut xs a b p q → Unfollowed tells holds count t custom cut ys txid b c q r → Unfollowed tells holds count t custom cut (xs ++ ys) txid a c p r
  unfollowed-then xs ys txid a b c p q r first second = record {
    steps = xs ++ second.steps;
    rest = second.rest;
    first = ap (λ (zs : List Step). xs ++ zs) second.first ∙ sym (append_assoc xs second.steps second.rest);
    drives = drives-then xs second.steps a b c p q r first second.drives;
    ends = second.ends;
    less = wants-then xs a b second.ends.earlier p q r first second.less;
  }

  -- an engine that stopped with the fates and the parts that it had
  pub leaves-still : (e : Engine I g) (fates : List Attempt) (parts : List (StatePart S)) → fates ≡ e.fates → Leaves holds count t custom cut e fates parts parts
  leaves-still e fates parts same = record {
    more = [];
    added = same ∙ sym (append-nil e.fates);
    stands = λ words all h k has input led planned. stands-same holds t custom cut e.fates fates parts (ap committed_batches same);
    strange = λ key found. found;
    counted = laws.none_but_last parts;
  }

  pub wants-still : (e : Engine I g) (fates : List Attempt) (parts : List (StatePart S)) → fates ≡ e.fates → WantsMemory tells holds count t custom cut e fates parts parts
  wants-still e fates parts same = record { steps = []; mid = e; between = parts; drives = drives-none e parts; leaves = leaves-still e fates parts same }

  -- it went through steps first
  pub wants-after : (xs : List Step) (a b : Engine I g) (p q : List (StatePart S)) → Drives tells holds count t custom cut xs a b p q → WantsMemory tells holds count t custom cut a b.fates p q
  wants-after xs a b p q drives = wants-then xs a b b.fates p q q drives (wants-still b b.fates q refl)

-- more steps were to come behind a commit at which a follower failed
pub unfollowed-longer : {I S : Type 0} {g : Ghosts I} (tells : I → (ℕ → ℕ) → ℕ → Type 0) (holds : S → CellMap → Type 0) (count : S → ℕ) (t : Topology) (custom : Custom) (cut : Cut) (whole more all : List Step) (txid : ℕ) (a b : Engine I g) (p q : List (StatePart S))
    → all ≡ whole ++ more → Unfollowed tells holds count t custom cut whole txid a b p q → Unfollowed tells holds count t custom cut all txid a b p q
unfollowed-longer tells holds count t custom cut whole more all txid a b p q are stops = record {
  steps = stops.steps;
  rest = stops.rest ++ more;
  first = are ∙ ap (λ (zs : List Step). zs ++ more) stops.first ∙ append_assoc stops.steps stops.rest more;
  drives = stops.drives;
  ends = stops.ends;
  less = stops.less;
}

-- more steps were to come
pub breaks-longer : {I S : Type 0} {g : Ghosts I} (tells : I → (ℕ → ℕ) → ℕ → Type 0) (holds : S → CellMap → Type 0) (count : S → ℕ) (t : Topology) (custom : Custom) (cut : Cut) (whole more all : List Step) (key : List ℕ) (a b : Engine I g) (p q : List (StatePart S))
    → all ≡ whole ++ more → Breaks tells holds count t custom cut whole key a b p q → Breaks tells holds count t custom cut all key a b p q
breaks-longer tells holds count t custom cut whole more all key a b p q are breaks = record {
  steps = breaks.steps;
  rest = breaks.rest ++ more;
  first = are ∙ ap (λ (zs : List Step). zs ++ more) breaks.first ∙ append_assoc breaks.steps breaks.rest more;
  between = breaks.between;
  drives = breaks.drives;
  leaves = breaks.leaves;
  bad = breaks.bad;
}
