-- Each whole round does something until all is over, and what can be done is bounded.
use Rattle.std.proofs.Common.{◌≡◌, ◌<◌, ◌≤◌, ◌⊎◌, inl, inr, ℕ, zero, suc, ◌+◌, Bool, true, false, List, [], ◌∷◌, ◌++◌, get_or, map, replicate, refl, sym, ap, ◌∙◌, subst, arith}
use Rattle.std.specs.Prelude.{All}
use Rattle.std.specs.List.{AllByRecursion, range_with_len}
use Rattle.std.proofs.lemmas.Bool.{cases_lt}
use Rattle.std.proofs.lemmas.List.{get_or-replicate, get_or_past, length-replicate}
use Rattle.event_worlds.specs.bolt_ops.RowOp.{Custom}
use Rattle.event_worlds.specs.commit_turns.Outcomes.{IsOutcome}
use Rattle.event_worlds.specs.commit_turns.Turns.{is_finished}
use Rattle.event_worlds.specs.Accounted.{IsInput, LedTo}
use Rattle.event_worlds.specs.Added.{added}
use Rattle.event_worlds.specs.Worlds.{Known, Step, acker_at, coordinator_steps, first_known, is_over, next, no_acker, of_acker, of_task, of_tick}
use Rattle.event_worlds.specs.state_parts.declared.answer.CommitOutcome.{CommitOutcome}
use Rattle.event_worlds.specs.state_parts.declared.answer.CommitOutcome.TheVariants as outcome
use Rattle.event_worlds.specs.topology_plan.Topology.{Topology, tasks_in_all}
use Rattle.event_worlds.specs.taken_records.Cuts.{Cut}
use Rattle.event_worlds.specs.tuple_account.Histories.{History, joined}
use Rattle.event_worlds.proofs.counted_items.Each.{each-back, each-front}
use Rattle.event_worlds.specs.Rounds.{CanFinish, DoesNotCoincide, HasRounds, round_with, rounds_needed, ticks_in}
use Rattle.world_progress.specs.Running.{so_far}
use Rattle.event_worlds.proofs.Nodes.{NodesAdd}
use Rattle.world_progress.proofs.Bounding.{bounded}
use Rattle.world_progress.specs.Doing.{done}
use Rattle.world_progress.proofs.Finishing.{finished, none_aborts}
use Rattle.world_progress.specs.Lasting.{IsSeat, Lasting}
use Rattle.world_progress.specs.Rounding.{DoesMore, IsOpen, LastsOn, ShutsNone}
use Rattle.world_progress.proofs.Phases.{LowestStays, round_stirs}
use Rattle.world_progress.proofs.Resting.{all_settled}
use Rattle.world_progress.proofs.Running.{LeadsOn, Starts, Still, comes, goes_all, open_all, over_stays, starts-next, ticks-cons}

-- a commit that is done is an outcome
pub all_done_fits : (t : Topology) (outcomes : List CommitOutcome) → All (λ (how : CommitOutcome). how ≡ outcome.Done) outcomes → All (IsOutcome t) outcomes
all_done_fits t outcomes all = λ k d below. subst (IsOutcome t) (sym (all k d below)) tt

pub ticks-append : (a b : List Step) → ticks_in (a ++ b) ≡ ticks_in a + ticks_in b
ticks-append [] b = omega arith
ticks-append (s ∷ a) b = let x = ticks-cons s (a ++ b) in let y = ticks-cons s a in let rest = ticks-append a b in omega arith

no_tasks_tick : (xs : List ℕ) → ticks_in (map of_task xs) ≡ 0
no_tasks_tick [] = refl
no_tasks_tick (x ∷ xs) = no_tasks_tick xs

no_ackers_tick : (xs : List ℕ) → ticks_in (map of_acker xs) ≡ 0
no_ackers_tick [] = refl
no_ackers_tick (x ∷ xs) = no_ackers_tick xs

so_many_ticks : (n : ℕ) → ticks_in (replicate n of_tick) ≡ n
so_many_ticks zero = refl
so_many_ticks (suc n) = ap suc (so_many_ticks n)

-- a round has the ticks that it is given
pub ticks-round : (t : Topology) (ticks : ℕ) → ticks_in (round_with t ticks) ≡ ticks
ticks-round t ticks =
    let tasks = map of_task (range_with_len 0 (tasks_in_all t)) in
    let ackers = map of_acker (range_with_len 0 t.ackers) in
    let a = ticks-append ((tasks ++ ackers) ++ replicate ticks of_tick) coordinator_steps in
    let b = ticks-append (tasks ++ ackers) (replicate ticks of_tick) in
    let c = ticks-append tasks ackers in
    let x = no_tasks_tick (range_with_len 0 (tasks_in_all t)) in
    let y = no_ackers_tick (range_with_len 0 t.ackers) in
    let z = so_many_ticks ticks in omega arith

-- ---- the first world

first_seats : (t : Topology) (cut : Cut) (words : ℕ → ℕ → ℕ) (n : ℕ) → IsSeat t n 0 (acker_at n (first_known t cut words).world)
first_seats t cut words n = subst (IsSeat t n 0) (sym none) (record { counted = omega arith; young = record { each = tt; once = λ root. omega arith } })
  where
    none : get_or (replicate t.ackers no_acker) n no_acker ≡ no_acker
    none = elim (cases_lt n t.ackers) [
      | inl below ↦ get_or-replicate t.ackers n no_acker no_acker below
      | inr past ↦ get_or_past (replicate t.ackers no_acker) n no_acker (let l = length-replicate t.ackers no_acker in omega arith)
    ]

pub first_lasts : (t : Topology) (custom : Custom) (cut : Cut) (words : ℕ → ℕ → ℕ) (h : History) → LedTo t custom cut words h (first_known t cut words)
    → h.dropped ≡ [] → Lasting t custom cut words h (first_known t cut words)
first_lasts t custom cut words h led whole = record {
  led = led;
  seats = first_seats t cut words;
  whole = whole;
  fine = tt;
}

module _ (t : Topology) (custom : Custom) (cut : Cut) (words : ℕ → ℕ → ℕ) (outcomes : List CommitOutcome) (leads : LeadsOn t custom cut words outcomes) (all_done : All (λ (how : CommitOutcome). how ≡ outcome.Done) outcomes) where
  abbrev after : List Step → Known → Known
  after steps k = goes_all t custom cut words outcomes steps k

  abbrev happened : List Step → History → Known → History
  happened steps h k = so_far t custom cut words outcomes steps h k

  abbrev StartsRun : List Step → History → Known → Type 0
  StartsRun steps h k = Starts t custom cut words outcomes leads all_done steps h k

  -- ---- runs in two parts

  run-append : (a b : List Step) (k : Known) → after (a ++ b) k ≡ after b (after a k)
  run-append [] b k = refl
  run-append (s ∷ a) b k = run-append a b (next t custom cut words outcomes s k)

  so_far-append : (a b : List Step) (h : History) (k : Known) → happened (a ++ b) h k ≡ happened b (happened a h k) (after a k)
  so_far-append [] b h k = refl
  so_far-append (s ∷ a) b h k = so_far-append a b (joined h (added t custom cut words s k)) (next t custom cut words outcomes s k)

  starts-front : (a b : List Step) (h : History) (k : Known) → StartsRun (a ++ b) h k → StartsRun a h k
  starts-front a b h k is = record { last = is.last; short = (let s = is.short in let x = ticks-append a b in omega arith) }

  starts-back : (a b : List Step) (h : History) (k : Known) → StartsRun (a ++ b) h k → StartsRun b (happened a h k) (after a k)
  starts-back [] b h k is = is
  starts-back (s ∷ a) b h k is = starts-back a b (joined h (added t custom cut words s k)) (next t custom cut words outcomes s k) (starts-next t custom cut words outcomes leads all_done s (a ++ b) h k is)

  -- ---- rounds

  -- it is over at the end, or so much more was done
  abbrev pub OverOrMore : ℕ → List Step → History → Known → Type 0
  OverOrMore count steps h k = (is_over t cut (after steps k).world ≡ true) ⊎ (count + done h k.world ≤ done (happened steps h k) (after steps k).world)

  -- the same of a run in two parts
  in_parts : (count : ℕ) (a b : List Step) (h : History) (k : Known)
      → ((is_over t cut (after b (after a k)).world ≡ true) ⊎ (count + done h k.world ≤ done (happened b (happened a h k) (after a k)) (after b (after a k)).world)) → OverOrMore count (a ++ b) h k
  in_parts count a b h k (inl over) = inl (ap (λ (j : Known). is_over t cut j.world) (run-append a b k) ∙ over)
  in_parts count a b h k (inr more) =
      inr (subst (λ (j : Known). count + done h k.world ≤ done (happened (a ++ b) h k) j.world) (sym (run-append a b k))
      (subst (λ (x : History). count + done h k.world ≤ done x (after b (after a k)).world) (sym (so_far-append a b h k)) more))

  -- with partitions no step shuts one
  abbrev pub StaysOpen : List Step → Type 0
  StaysOpen steps = 0 < cut.partitions → AllByRecursion ShutsNone steps

  -- a round does something, or all is over
  abbrev pub Stirs : Type 0
  Stirs = (ticks : ℕ) (h : History) (k : Known) → Still t custom cut words outcomes leads all_done (round_with t ticks) h k → IsOpen cut k.world → ⊥

  module _ (stirs : Stirs) where
    one_round : (ticks : ℕ) (h : History) (k : Known) → StartsRun (round_with t ticks) h k → IsOpen cut k.world → OverOrMore 1 (round_with t ticks) h k
    one_round ticks h k is is_open = by (is_over t cut (after (round_with t ticks) k).world) refl
      where
        by : (b : Bool) → is_over t cut (after (round_with t ticks) k).world ≡ b → OverOrMore 1 (round_with t ticks) h k
        by true over = inl over
        by false goes_on =
            elim (cases_lt (done h k.world) (done (happened (round_with t ticks) h k) (after (round_with t ticks) k).world)) [
              | inl more ↦ inr (omega arith)
              | inr same ↦ absurd (stirs ticks h k (record { starts = is; same = same; open_end = goes_on }) is_open)
            ]

    -- and then the rest
    then_rest : (count : ℕ) (a b : List Step) (h : History) (k : Known) → OverOrMore 1 a h k → OverOrMore count b (happened a h k) (after a k) → OverOrMore (suc count) (a ++ b) h k
    then_rest count a b h k (inl over) rest =
        in_parts (suc count) a b h k (inl (ap (λ (j : Known). is_over t cut j.world) (over_stays t custom cut words outcomes b (after a k) over) ∙ over))
    then_rest count a b h k (inr more) (inl over) = in_parts (suc count) a b h k (inl over)
    then_rest count a b h k (inr more) (inr rest) = in_parts (suc count) a b h k (inr (omega arith))

    -- steps before do not take away
    before : (count : ℕ) (a b : List Step) (h : History) (k : Known) → StartsRun a h k → OverOrMore count b (happened a h k) (after a k) → OverOrMore count (a ++ b) h k
    before count a b h k is (inl over) = in_parts count a b h k (inl over)
    before count a b h k is (inr more) = in_parts count a b h k (inr (let c = comes t custom cut words outcomes leads all_done a h k is in let m = c.more in omega arith))

    pub rounds : (count : ℕ) (steps : List Step) (h : History) (k : Known) → HasRounds t count steps → StartsRun steps h k → StaysOpen steps
        → IsOpen cut k.world → OverOrMore count steps h k
    rounds zero steps h k has is none is_open = inr (let c = comes t custom cut words outcomes leads all_done steps h k is in let m = c.more in omega arith)
    rounds (suc count) steps h k (first, rest, ticks, same, more) is none is_open =
        subst (λ (xs : List Step). OverOrMore (suc count) xs h k) (sym same)
        (before (suc count) first (round_with t ticks ++ rest) h k (starts-front first (round_with t ticks ++ rest) h k now)
        (then_rest count (round_with t ticks) rest (happened first h k) (after first k)
        (one_round ticks (happened first h k) (after first k) (starts-front (round_with t ticks) rest (happened first h k) (after first k) later) then_open)
        (rounds count rest (happened (round_with t ticks) (happened first h k) (after first k)) (after (round_with t ticks) (after first k)) more
        (starts-back (round_with t ticks) rest (happened first h k) (after first k) later) (λ some. each-back ShutsNone (round_with t ticks) rest (others some))
        (open_all t custom cut words outcomes (round_with t ticks) (after first k)
        (λ some. each-front ShutsNone (round_with t ticks) rest (others some)) then_open))))
      where
        now : StartsRun (first ++ (round_with t ticks ++ rest)) h k
        now = subst (λ (xs : List Step). StartsRun xs h k) same is

        all_steps : 0 < cut.partitions → AllByRecursion ShutsNone (first ++ (round_with t ticks ++ rest))
        all_steps some = subst (AllByRecursion ShutsNone) same (none some)

        others : 0 < cut.partitions → AllByRecursion ShutsNone (round_with t ticks ++ rest)
        others some = each-back ShutsNone first (round_with t ticks ++ rest) (all_steps some)

        then_open : IsOpen cut (after first k).world
        then_open = open_all t custom cut words outcomes first k (λ some. each-front ShutsNone first (round_with t ticks ++ rest) (all_steps some)) is_open

        later : StartsRun (round_with t ticks ++ rest) (happened first h k) (after first k)
        later = starts-back first (round_with t ticks ++ rest) h k now

  -- ---- from any world in which nothing is lost

  -- steps in which fewer ticks pass than there are buckets
  pub goes_on : (steps : List Step) (h : History) (k : Known) → Lasting t custom cut words h k → k.world.tick + ticks_in steps < t.buckets → LastsOn t custom cut words (ticks_in steps) h k (happened steps h k) (after steps k)
  goes_on steps h k last short =
      let c = comes t custom cut words outcomes leads all_done steps h k (record { last = last; short = short }) in record { last = c.last; more = c.more; tick = c.ticks }

  module _ (lowest : LowestStays) (input : IsInput t cut) (can : CanFinish t) where
    pub stirring : Stirs
    stirring ticks h k still is_open =
        round_stirs t custom cut words outcomes leads all_done lowest input.valid input.start
        (λ x j last empty. all_settled t custom cut words input.valid can x j last empty) ticks h k still is_open

    -- one round
    pub round_does : (ticks : ℕ) (h : History) (k : Known) → Lasting t custom cut words h k → k.world.tick + ticks < t.buckets
        → LastsOn t custom cut words ticks h k (happened (round_with t ticks) h k) (after (round_with t ticks) k)
        × (IsOpen cut k.world → DoesMore t cut h k (happened (round_with t ticks) h k) (after (round_with t ticks) k))
    round_does ticks h k last short =
        let e = ticks-round t ticks in
        let g = goes_on (round_with t ticks) h k last (omega arith) in (
          record { last = g.last; more = g.more; tick = (let z = g.tick in omega arith) },
          λ is_open. by (one_round stirring ticks h k (record { last = last; short = omega arith }) is_open),
        )
      where
        by : OverOrMore 1 (round_with t ticks) h k → DoesMore t cut h k (happened (round_with t ticks) h k) (after (round_with t ticks) k)
        by (inl over) = inl over
        by (inr more) = inr (omega arith)

  module _ (adds : NodesAdd t custom) (lowest : LowestStays) (input : IsInput t cut) (can : CanFinish t) (h : History) (k : Known)
      (last : Lasting t custom cut words h k) (is_open : IsOpen cut k.world) where
    pub all_finish : (steps : List Step) → HasRounds t (rounds_needed t custom cut) steps → k.world.tick + ticks_in steps < t.buckets → StaysOpen steps
        → All DoesNotCoincide (after steps k).world.fates → is_finished t cut (after steps k).world.desk ≡ true
    all_finish steps has short stays_open apart = by (rounds (stirring lowest input can) (rounds_needed t custom cut) steps h k has starts stays_open is_open)
      where
        starts : StartsRun steps h k
        starts = record { last = last; short = short }

        by : OverOrMore (rounds_needed t custom cut) steps h k → is_finished t cut (after steps k).world.desk ≡ true
        by (inl over) =
            let c = comes t custom cut words outcomes leads all_done steps h k starts in
            finished t custom cut words input can (happened steps h k) (after steps k) c.last (let x = c.ticks in omega arith) apart over
        by (inr more) =
            let c = comes t custom cut words outcomes leads all_done steps h k starts in
            let d = last.led.kept.commits in
            let short_end : (after steps k).world.tick < t.buckets = (let x = c.ticks in omega arith) in
            let b = bounded t custom cut words adds input (happened steps h k) (after steps k) c.last
            (none_aborts t custom cut words input can (happened steps h k) (after steps k) c.last short_end apart) in absurd (omega arith)
