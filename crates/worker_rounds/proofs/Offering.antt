-- What a round offers: records of partitions that are not shut.
use Rattle.std.proofs.Common.{◌≡◌, ◌<◌, inl, inr, ℕ, zero, suc, ◌+◌, ◌-◌, ◌%◌, ◌==◌, ◌&&◌, not, Bool, true, false, cond, List, [], ◌∷◌, ◌++◌, map, get_or, length, Option, None, Some, refl, sym, ap, subst, ◌∙◌, append-nil, eqb-true, true≢false, arith}
use Rattle.std.specs.Prelude.{◌⊎◌, Contains, replicate, slice_get}
use Rattle.std.specs.List.{AllByRecursion, range_with_len}
use Rattle.std.specs.Option.{option_and_then}
use Rattle.std.proofs.lemmas.Bool.{eq-eqb}
use Rattle.std.proofs.lemmas.List.Elements.{Contains-append_left, Contains-push}
use Rattle.std.proofs.lemmas.List.FromFn.{fill_by_all}
use Rattle.event_worlds.specs.acker_core.declared.verdict.Verdict.{Verdict}
use Rattle.event_worlds.specs.attempt_fates.declared.fates.Attempt.{Attempt}
use Rattle.event_worlds.specs.bolt_ops.RowOp.{Custom}
use Rattle.event_worlds.proofs.commit_turns.Carrying.{carries_decided, carries_turned}
use Rattle.event_worlds.specs.commit_order.Orders.{desk_of}
use Rattle.event_worlds.specs.commit_turns.declared.wait.Wait.{Wait}
use Rattle.event_worlds.specs.commit_turns.Desks.{Desk, Progress}
use Rattle.event_worlds.specs.commit_turns.Kept.{HaveSpans}
use Rattle.event_worlds.specs.commit_turns.Turns.{begun, decided, fill_more, filled, fresh, heard, next_root, next_wait, ordered, passed, turned, turned_by}
use Rattle.event_worlds.specs.Accounted.{IsInput}
use Rattle.event_worlds.proofs.counted_items.Each.{each-append, each-front, each-weaker}
use Rattle.event_worlds.proofs.Shutting.{open-bit, shut-bit}
use Rattle.event_worlds.proofs.record_offers.OfferLemmas.{offered_free}
use Rattle.event_worlds.proofs.record_spans.RunLemmas.{stands_then}
use Rattle.event_worlds.proofs.taken_records.Running.{free_rises, runs_records}
use Rattle.event_worlds.specs.record_offers.Offers.{batch_numbers, first_free, is_gone, is_shut, offered}
use Rattle.event_worlds.specs.record_spans.declared.span.Span.{Span}
use Rattle.event_worlds.specs.record_spans.Spans.{stands_in}
use Rattle.event_worlds.specs.taken_records.Cuts.{Cut, offers_of}
use Rattle.event_worlds.specs.taken_records.Taken.{runs_of}
use Rattle.event_worlds.specs.Rounds.{round_with}
use Rattle.event_worlds.specs.Worlds.{Known, Step, World, acted_past, coordinator_steps, delivered, is_over, next, next_outcome, next_words, of_acker, of_open, of_outcome, of_shut, of_task, of_tick, of_turn, outcomes_of, run, sent, step, task_at, task_needs, turn_needs, turn_past, with_progress, with_task}
use Rattle.event_worlds.specs.state_parts.declared.answer.CommitOutcome.{CommitOutcome}
use Rattle.event_worlds.specs.storm_ids.declared.ids.Ids.{Ghosts}
use Rattle.event_worlds.specs.storm_values.declared.value.Root.{Root}
use Rattle.event_worlds.specs.topology_plan.Topology.{Topology, tasks_in_all}
use Rattle.event_worlds.specs.tree_model.declared.messages.Parcel.{Parcel}
use Rattle.event_worlds.specs.tree_model.declared.messages.Parcel.TheVariants.{ToTask, ToAcker}
use Rattle.worker_rounds.proofs.Ticking.{run-joined}
use Rattle.worker_rounds.specs.Running.{HasOffered, IsOffered, round_by}
use Rattle.worker_stretches.specs.event_engine.declared.engine.Engine.{Engine}
use Rattle.worker_stretches.specs.event_engine.Engines.{Gives, Goes, HasOutcomes, IsStill, shape}
use Rattle.worker_stretches.specs.event_engine.Shutting.{shutting, shutting_steps}

-- ---- an attempt that begins

-- the records are of partitions that are open
abbrev AreOpen : ℕ → ℕ → List Span → Type 0
AreOpen partitions shut spans = (n : ℕ) → stands_in spans n ≡ true → is_shut shut ((n - 1) % partitions) ≡ false

both-free : (a b : Bool) → (not a && not b) ≡ true → b ≡ false
both-free true b is = absurd (true≢false (sym is))
both-free false true is = absurd (true≢false (sym is))
both-free false false is = refl

open-free : (size partitions shut : ℕ) (gone : List Bool) → AreOpen partitions shut (runs_of (first_free size partitions shut gone))
open-free size partitions shut gone = λ n stands.
    let numbers : List ℕ = first_free size partitions shut gone in
    both-free (is_gone gone n) (is_shut shut ((n - 1) % partitions))
    (offered_free size partitions shut n gone (subst (λ (ns : List ℕ). Contains ns n) (runs_records 0 numbers (free_rises size partitions shut gone)) (stands_then (runs_of numbers) n stands))).2

module _ (t : Topology) (cut : Cut) (shut : ℕ) (some : 0 < cut.partitions) where
  -- what is offered with partitions
  open-offered : (gone : List Bool) (txid : ℕ) → AreOpen cut.partitions shut (runs_of (offered (offers_of cut gone) txid shut))
  open-offered gone txid = by (cut.partitions == 0) refl
    where
      by : (b : Bool) → (cut.partitions == 0) ≡ b → AreOpen cut.partitions shut (runs_of (cond b (batch_numbers (length cut.records) cut.size txid) (first_free cut.size cut.partitions shut gone)))
      by true is = absurd (let e = eqb-true cut.partitions 0 is in omega arith)
      by false is = open-free cut.size cut.partitions shut gone

  open-fresh : (d : Desk) (root : Root) (w : Wait) (numbers : List ℕ) → AreOpen cut.partitions shut (runs_of numbers) → fresh t cut d root numbers ≡ Some w → AreOpen cut.partitions shut w.spans
  open-fresh d root w [] are is = absurd (let e : None ≡ Some w = is in cc)
  open-fresh d root w (n ∷ numbers) are is =
      let made : Wait = record { root = root; spans = runs_of (n ∷ numbers); start = d.tick; settled = None } in
      let same : made ≡ w = (let e : Some made ≡ Some w = is in cc) in subst (λ (v : Wait). AreOpen cut.partitions shut v.spans) same are

  open-wait : (d : Desk) (w : Wait) → next_wait t cut shut d ≡ Some w → AreOpen cut.partitions shut w.spans
  open-wait d w is = by (next_root t cut d) is
    where
      by : (o : Option Root) → option_and_then (λ root. fresh t cut d root (offered (offers_of cut d.gone) root.txid shut)) o ≡ Some w → AreOpen cut.partitions shut w.spans
      by None e = absurd (let a : None ≡ Some w = e in cc)
      by (Some root) e = open-fresh d root w (offered (offers_of cut d.gone) root.txid shut) (open-offered d.gone root.txid) e

  abbrev AreBegun : List Wait → Type 0
  AreBegun ws = AllByRecursion (λ (w : Wait). AreOpen cut.partitions shut w.spans) ws

  open-filled : (places : ℕ) (d : Desk) → AreBegun (filled t cut shut places d).begun
  open-filled zero d = tt
  open-filled (suc places) d = by (next_wait t cut shut d) refl (open-filled places)
    where
      by : (o : Option Wait) → next_wait t cut shut d ≡ o → ((e : Desk) → AreBegun (filled t cut shut places e).begun) → AreBegun (fill_more t cut (filled t cut shut places) d o).begun
      by None is later = tt
      by (Some w) is later = (open-wait d w is, later (begun t cut w d))

  -- the attempts that a turn begins
  open-turned : (verdict : Option Verdict) (ticks : ℕ) (d : Desk) → AreBegun (turned t cut verdict ticks shut d).begun
  open-turned verdict ticks d = by (passed t cut ticks (heard t cut verdict d)).desk.exhausted (passed t cut ticks (heard t cut verdict d))
    where
      by : (o : Option ℕ) (p : Progress) → AreBegun (turned_by t cut shut o p).begun
      by (Some txid) p = tt
      by None p = open-filled t.pending (ordered t cut p.desk)

-- ---- steps

-- a step neither shuts nor opens a partition
abbrev KeepsShut : Step → Type 0
KeepsShut (of_task n) = Unit {0}
KeepsShut (of_acker n) = Unit {0}
KeepsShut of_turn = Unit {0}
KeepsShut of_outcome = Unit {0}
KeepsShut of_tick = Unit {0}
KeepsShut (of_shut q) = ⊥
KeepsShut (of_open q) = ⊥

-- it does
abbrev IsShutting : Step → Type 0
IsShutting (of_task n) = ⊥
IsShutting (of_acker n) = ⊥
IsShutting of_turn = ⊥
IsShutting of_outcome = ⊥
IsShutting of_tick = ⊥
IsShutting (of_shut q) = Unit {0}
IsShutting (of_open q) = Unit {0}

keeps-tasks : (xs : List ℕ) → AllByRecursion KeepsShut (map of_task xs)
keeps-tasks [] = tt
keeps-tasks (x ∷ xs) = (tt, keeps-tasks xs)

keeps-ackers : (xs : List ℕ) → AllByRecursion KeepsShut (map of_acker xs)
keeps-ackers [] = tt
keeps-ackers (x ∷ xs) = (tt, keeps-ackers xs)

keeps-ticks : (n : ℕ) → AllByRecursion KeepsShut (replicate n of_tick)
keeps-ticks zero = tt
keeps-ticks (suc n) = (tt, keeps-ticks n)

keeps-round : (t : Topology) (n : ℕ) → AllByRecursion KeepsShut (round_with t n)
keeps-round t n =
    let tasks : List Step = map of_task (range_with_len 0 (tasks_in_all t)) in
    let ackers : List Step = map of_acker (range_with_len 0 t.ackers) in
    let ticks : List Step = replicate n of_tick in
    each-append KeepsShut (tasks ++ ackers ++ ticks) coordinator_steps
    (each-append KeepsShut (tasks ++ ackers) ticks (each-append KeepsShut tasks ackers (keeps-tasks (range_with_len 0 (tasks_in_all t))) (keeps-ackers (range_with_len 0 t.ackers))) (keeps-ticks n))
    (tt, (tt, tt))

are-shutting : (shut : ℕ) (qs : List ℕ) → AllByRecursion IsShutting (map (shutting shut) qs)
are-shutting shut [] = tt
are-shutting shut (q ∷ qs) = (by (is_shut shut q), are-shutting shut qs)
  where
    by : (b : Bool) → IsShutting (cond b (of_shut q) (of_open q))
    by true = tt
    by false = tt

-- the first of two lists' items are the first ones of one, or all of it and the first of the other
split-first : (xs ys first rest : List Step) → xs ++ ys ≡ first ++ rest → ((more : List Step) × (xs ≡ first ++ more)) ⊎ ((later : List Step) × (first ≡ xs ++ later) × (ys ≡ later ++ rest))
split-first [] ys first rest is = inr (first, refl, is)
split-first (x ∷ xs) ys [] rest is = inl (x ∷ xs, refl)
split-first (x ∷ xs) ys (f ∷ first) rest is =
    let here : x ≡ f = (let e : x ∷ (xs ++ ys) ≡ f ∷ (first ++ rest) = is in cc) in
    let there : xs ++ ys ≡ first ++ rest = (let e : x ∷ (xs ++ ys) ≡ f ∷ (first ++ rest) = is in cc) in
    by here (split-first xs ys first rest there)
  where
    by : x ≡ f → ((more : List Step) × (xs ≡ first ++ more)) ⊎ ((later : List Step) × (first ≡ xs ++ later) × (ys ≡ later ++ rest))
        → ((more : List Step) × (x ∷ xs ≡ f ∷ (first ++ more))) ⊎ ((later : List Step) × (f ∷ first ≡ x ∷ (xs ++ later)) × (ys ≡ later ++ rest))
    by here (inl front) = inl (front.0, (λ i. here i ∷ front.1 i))
    by here (inr past) = inr (past.0, (λ i. sym here i ∷ past.1 i), past.2)

apart : (q n : ℕ) → (q == n) ≡ false → q ≡ n → ⊥
apart q n other same = true≢false (sym (eq-eqb q n same) ∙ other)

-- ---- worlds

-- the coordinator's desk, the fates and what is shut stay as they are
record IsAside (old new : World) : Type 0 where
  desk : new.desk ≡ old.desk
  fates : new.fates ≡ old.fates
  shut : new.shut ≡ old.shut

aside-delivered : (t : Topology) (p : Parcel) (w : World) → IsAside w (delivered t p w)
aside-delivered t (ToTask n tuple) w = record { desk = refl; fates = refl; shut = refl }
aside-delivered t (ToAcker n m) w = record { desk = refl; fates = refl; shut = refl }

aside-sent : (t : Topology) (o : Option Parcel) (w : World) → IsAside w (sent t o w)
aside-sent t None w = record { desk = refl; fates = refl; shut = refl }
aside-sent t (Some p) w = aside-delivered t p w

module _ (t : Topology) (custom : Custom) (cut : Cut) (words : ℕ → ℕ → ℕ) (outcomes : List CommitOutcome) (shuts : List ℕ) where
  abbrev goes : Step → Known → Known
  goes s k = step t custom cut words outcomes s k

  abbrev after : Step → Known → Known
  after s k = next t custom cut words outcomes s k

  abbrev goes_all : List Step → Known → Known
  goes_all steps k = run t custom cut words outcomes steps k

  -- all attempts of a world were offered by these answers
  abbrev Has : World → Type 0
  Has w = HaveSpans (λ root spans. IsOffered t.partitions shuts spans) w.desk w.fates

  has-same : (old new : World) → new.desk ≡ old.desk → new.fates ≡ old.fates → Has old → Has new
  has-same old new desk fates has = record {
    waits = subst (λ (d : Desk). AllByRecursion (λ (w : Wait). IsOffered t.partitions shuts w.spans) d.pending) (sym desk) has.waits;
    ends = subst (λ (fs : List Attempt). AllByRecursion (λ (a : Attempt). IsOffered t.partitions shuts a.spans) fs) (sym fates) has.ends;
  }

  -- ---- partitions are shut and opened

  has-shutting : (s : Step) (k : Known) → IsShutting s → Has k.world → Has (goes s k).world
  unfolding step
  has-shutting (of_task n) k is has = absurd is
  has-shutting (of_acker n) k is has = absurd is
  has-shutting of_turn k is has = absurd is
  has-shutting of_outcome k is has = absurd is
  has-shutting of_tick k is has = absurd is
  has-shutting (of_shut q) k is has = has-same k.world (goes (of_shut q) k).world refl refl has
  has-shutting (of_open q) k is has = has-same k.world (goes (of_open q) k).world refl refl has

  shutting-next : (s : Step) (k : Known) → IsShutting s → Has k.world → Has (after s k).world
  shutting-next s k is has = by (is_over t cut k.world)
    where
      by : (b : Bool) → Has (cond b k (goes s k)).world
      by true = has
      by false = has-shutting s k is has

  has-shut : (steps : List Step) (k : Known) → AllByRecursion IsShutting steps → Has k.world → Has (goes_all steps k).world
  has-shut [] k are has = has
  has-shut (s ∷ steps) k are has = has-shut steps (after s k) are.1 (shutting-next s k are.0 has)

  -- ---- which are shut after it

  module _ (shut : ℕ) where
    -- of the partitions below a number those are shut that these bits name
    abbrev Matches : ℕ → World → Type 0
    Matches n w = (q : ℕ) → q < n → is_shut w.shut q ≡ is_shut shut q

    over-shut : (q : ℕ) (k : Known) → is_over t cut (goes (of_shut q) k).world ≡ is_over t cut k.world
    unfolding step
    over-shut q k = refl

    over-open : (q : ℕ) (k : Known) → is_over t cut (goes (of_open q) k).world ≡ is_over t cut k.world
    unfolding step
    over-open q k = refl

    matches-shut : (n : ℕ) (k : Known) → is_shut shut n ≡ true → Matches n k.world → Matches (n + 1) (goes (of_shut n) k).world
    unfolding step
    matches-shut n k is have = λ q below. shut-bit n k.world.shut q ∙ by q below (q == n) refl
      where
        by : (q : ℕ) → q < n + 1 → (b : Bool) → (q == n) ≡ b → cond b true (is_shut k.world.shut q) ≡ is_shut shut q
        by q below true same = sym (ap (is_shut shut) (eqb-true q n same) ∙ is)
        by q below false other = have q (let away = apart q n other in omega (arith, below, away))

    matches-open : (n : ℕ) (k : Known) → is_shut shut n ≡ false → Matches n k.world → Matches (n + 1) (goes (of_open n) k).world
    unfolding step
    matches-open n k is have = λ q below. open-bit n k.world.shut q ∙ by q below (q == n) refl
      where
        by : (q : ℕ) → q < n + 1 → (b : Bool) → (q == n) ≡ b → cond b false (is_shut k.world.shut q) ≡ is_shut shut q
        by q below true same = sym (ap (is_shut shut) (eqb-true q n same) ∙ is)
        by q below false other = have q (let away = apart q n other in omega (arith, below, away))

    next-shut : (n : ℕ) (k : Known) → is_over t cut k.world ≡ false → Matches n k.world → (b : Bool) → is_shut shut n ≡ b
        → (is_over t cut (after (cond b (of_shut n) (of_open n)) k).world ≡ false) × Matches (n + 1) (after (cond b (of_shut n) (of_open n)) k).world
    next-shut n k on have true is =
        subst (λ (b : Bool). (is_over t cut (cond b k (goes (of_shut n) k)).world ≡ false) × Matches (n + 1) (cond b k (goes (of_shut n) k)).world) (sym on)
        (over-shut n k ∙ on, matches-shut n k is have)
    next-shut n k on have false is =
        subst (λ (b : Bool). (is_over t cut (cond b k (goes (of_open n) k)).world ≡ false) × Matches (n + 1) (cond b k (goes (of_open n) k)).world) (sym on)
        (over-open n k ∙ on, matches-open n k is have)

    matches-all : (count n : ℕ) (k : Known) → is_over t cut k.world ≡ false → Matches n k.world → Matches (n + count) (goes_all (map (shutting shut) (range_with_len n count)) k).world
    matches-all zero n k on have = λ q below. have q (omega arith)
    matches-all (suc count) n k on have =
        let next_is = next-shut n k on have (is_shut shut n) refl in
        λ q below. matches-all count (n + 1) (after (shutting shut n) k) next_is.0 next_is.1 q (omega arith)

    -- ---- the other steps

    module _ (same : cut.partitions ≡ t.partitions) (some : 0 < t.partitions) (answered : Contains shuts shut) where
      offered-open : (w : World) → Matches t.partitions w → (spans : List Span) → AreOpen cut.partitions w.shut spans → IsOffered t.partitions shuts spans
      offered-open w have spans are = record {
        shut = shut;
        answered = answered;
        are_open = λ n stands.
            let below : (n - 1) % t.partitions < t.partitions = omega (arith, some) in
            sym (have ((n - 1) % t.partitions) below) ∙ ap (λ (p : ℕ). is_shut w.shut ((n - 1) % p)) (sym same) ∙ are n stands;
      }

      has-turned : (ids : List ℕ) (w : World) (out : List Parcel) → Matches t.partitions w → Has w → Has (turn_past t cut ids w out)
      has-turned ids w (p ∷ out) have has = let is = aside-delivered t p (record w { orders = out }) in has-same w (turn_past t cut ids w (p ∷ out)) is.desk is.fates has
      has-turned ids w [] have has =
          carries_turned (λ root spans. IsOffered t.partitions shuts spans) t cut w.desk w.fates has (slice_get w.verdicts 0) w.unheard w.shut
          (each-weaker (λ (v : Wait). AreOpen cut.partitions w.shut v.spans) (λ (v : Wait). IsOffered t.partitions shuts v.spans) (λ v are. offered-open w have v.spans are) (turned t cut (slice_get w.verdicts 0) w.unheard w.shut w.desk).begun
          (open-turned t cut w.shut (let e = same in omega arith) (slice_get w.verdicts 0) w.unheard w.desk))

      shut-turned : (ids : List ℕ) (w : World) (out : List Parcel) → (turn_past t cut ids w out).shut ≡ w.shut
      shut-turned ids w [] = refl
      shut-turned ids w (p ∷ out) = (aside-delivered t p (record w { orders = out })).shut

      has-decided : (how : CommitOutcome) (w : World) (b : Bool) → Has w → Has (cond b (with_progress t cut (decided t cut how w.desk) w) w)
      has-decided how w true has = carries_decided (λ root spans. IsOffered t.partitions shuts spans) t cut w.desk w.fates has how
      has-decided how w false has = has

      shut-decided : (how : CommitOutcome) (w : World) (b : Bool) → (cond b (with_progress t cut (decided t cut how w.desk) w) w).shut ≡ w.shut
      shut-decided how w true = refl
      shut-decided how w false = refl

      -- what all was offered by, and what is shut
      record Holds (w : World) : Type 0 where
        has : Has w
        matches : Matches t.partitions w

      holds-same : (old new : World) → new.shut ≡ old.shut → Matches t.partitions old → Has new → Holds new
      holds-same old new is have has = record { has = has; matches = λ q below. ap (λ (bits : ℕ). is_shut bits q) is ∙ have q below }

      holds-goes : (s : Step) (k : Known) → KeepsShut s → Holds k.world → Holds (goes s k).world
      unfolding step
      holds-goes (of_task n) k keeps holds =
          let a = acted_past t custom n (next_words words k.counts n (task_needs t custom (task_at t n k.world))) (task_at t n k.world) (task_at t n k.world).outbox in
          let is = aside-sent t a.parcel (with_task n a.side k.world) in
          holds-same k.world (goes (of_task n) k).world is.shut holds.matches (has-same k.world (goes (of_task n) k).world is.desk is.fates holds.has)
      holds-goes (of_acker n) k keeps holds = holds-same k.world (goes (of_acker n) k).world refl holds.matches (has-same k.world (goes (of_acker n) k).world refl refl holds.has)
      holds-goes of_turn k keeps holds =
          let ids = next_words words k.counts (tasks_in_all t) (turn_needs t cut k.world) in
          holds-same k.world (goes of_turn k).world (shut-turned ids k.world k.world.orders) holds.matches (has-turned ids k.world k.world.orders holds.matches holds.has)
      holds-goes of_outcome k keeps holds =
          let how = next_outcome outcomes k.world.fates in
          holds-same k.world (goes of_outcome k).world (shut-decided how k.world k.world.desk.out) holds.matches (has-decided how k.world k.world.desk.out holds.has)
      holds-goes of_tick k keeps holds = holds-same k.world (goes of_tick k).world refl holds.matches (has-same k.world (goes of_tick k).world refl refl holds.has)
      holds-goes (of_shut q) k keeps holds = absurd keeps
      holds-goes (of_open q) k keeps holds = absurd keeps

      holds-next : (s : Step) (k : Known) → KeepsShut s → Holds k.world → Holds (after s k).world
      holds-next s k keeps holds = by (is_over t cut k.world)
        where
          by : (b : Bool) → Holds (cond b k (goes s k)).world
          by true = holds
          by false = holds-goes s k keeps holds

      holds-run : (steps : List Step) (k : Known) → AllByRecursion KeepsShut steps → Holds k.world → Holds (goes_all steps k).world
      holds-run [] k keeps holds = holds
      holds-run (s ∷ steps) k keeps holds = holds-run steps (after s k) keeps.1 (holds-next s k keeps.0 holds)

      -- by the first steps of a round all is offered so
      has-part : (ticks : ℕ) (first rest : List Step) (k : Known) → round_by t shut ticks ≡ first ++ rest → is_over t cut k.world ≡ false → Has k.world → Has (goes_all first k).world
      has-part ticks first rest k is on has =
          elim (split-first (shutting_steps t.partitions shut) (round_with t ticks) first rest is) [
            | inl front ↦ has-shut first k (each-front IsShutting first front.0 (subst (AllByRecursion IsShutting) front.1 (are-shutting shut (range_with_len 0 t.partitions)))) has
            | inr past ↦ (let begun_at : Known = goes_all (shutting_steps t.partitions shut) k in
                let start : Holds begun_at.world = record {
                  has = has-shut (shutting_steps t.partitions shut) k (are-shutting shut (range_with_len 0 t.partitions)) has;
                  matches = λ q below. matches-all t.partitions 0 k on (λ r none. absurd (omega arith)) q (omega arith);
                } in
                let keeps = each-front KeepsShut past.0 rest (subst (AllByRecursion KeepsShut) past.2 (keeps-round t ticks)) in
                subst Has (sym (ap (λ (steps : List Step). (goes_all steps k).world) past.1 ∙ ap (λ (j : Known). j.world) (run-joined t custom cut words outcomes (shutting_steps t.partitions shut) past.0 k)))
                (holds-run past.0 begun_at keeps start).has)
          ]

-- ---- engines

module _ {I : Type 0} {g : Ghosts I} (partitions : ℕ) where
  -- by more answers too
  pub offered-more : (shuts more : List ℕ) (e : Engine I g) → HasOffered partitions shuts e → HasOffered partitions (shuts ++ more) e
  offered-more shuts more e has = record {
    waits = each-weaker (λ (w : Wait). IsOffered partitions shuts w.spans) (λ (w : Wait). IsOffered partitions (shuts ++ more) w.spans) (λ w is. later w.spans is) (shape e).desk.pending has.waits;
    ends = each-weaker (λ (a : Attempt). IsOffered partitions shuts a.spans) (λ (a : Attempt). IsOffered partitions (shuts ++ more) a.spans) (λ a is. later a.spans is) e.fates has.ends;
  }
    where
      later : (spans : List Span) → IsOffered partitions shuts spans → IsOffered partitions (shuts ++ more) spans
      later spans is = record { shut = is.shut; answered = Contains-append_left shuts more is.shut is.answered; are_open = is.are_open }

  -- where the coordinator and the fates stay as they are
  pub offered-still : (shuts : List ℕ) (old new : Engine I g) → IsStill old new → HasOffered partitions shuts old → HasOffered partitions shuts new
  offered-still shuts old new still has = record {
    waits = subst (λ c. AllByRecursion (λ (w : Wait). IsOffered partitions shuts w.spans) (desk_of c).pending) (sym still.coordinator) has.waits;
    ends = subst (λ (fs : List Attempt). AllByRecursion (λ (a : Attempt). IsOffered partitions shuts a.spans) fs) (sym still.fates) has.ends;
  }

module _ {I : Type 0} {g : Ghosts I} (tells : I → (ℕ → ℕ) → ℕ → Type 0) (t : Topology) (custom : Custom) (cut : Cut) (input : IsInput t cut) (some : 0 < t.partitions) (shut ticks : ℕ) (old new : Engine I g) where
  -- by the first steps of a round all is offered by what was answered before, or by this
  pub offered-part : (first rest : List Step) → round_by t shut ticks ≡ first ++ rest → is_over t cut (shape old) ≡ false → Goes tells t custom cut first old new → (shuts : List ℕ) → HasOffered t.partitions shuts old → HasOffered t.partitions (shuts ++ shut ∷ []) new
  offered-part first rest is on goes shuts has =
      let words : ℕ → ℕ → ℕ = λ s k. get_or (goes.given s) k 0 in
      let gives : Gives words (λ s. 0) goes.given = λ s. sym (fill_by_all (words s) (goes.given s) (length (goes.given s)) 0 refl (λ k below. refl)) in
      let outcomes = outcomes_of new.fates in
      let had : HasOutcomes outcomes new.fates = record { rest = []; first = sym (append-nil outcomes) } in
      let start : Known = record { world = shape old; counts = λ s. 0 } in
      let all : List ℕ = shuts ++ shut ∷ [] in
      subst (λ (w : World). HaveSpans (λ root spans. IsOffered t.partitions all spans) w.desk w.fates) (goes.runs words (λ s. 0) outcomes gives had).0
      (has-part t custom cut words outcomes all shut input.partitions some (Contains-push shuts shut) ticks first rest start is on (offered-more t.partitions shuts (shut ∷ []) old has))
