-- An engine's steps, one after another.
use Rattle.std.proofs.Common.{◌≡◌, ℕ, zero, suc, ◌+◌, ◌==◌, Bool, true, false, cond, true≢false, List, [], ◌∷◌, ◌++◌, length, map, append_assoc, append-nil, None, Some, get_or, set, sym, refl, ap, subst, ◌∙◌, length-append, eq-eqb, eqb-true, arith}
use Rattle.std.specs.Prelude.{slice_get}
use Rattle.std.specs.List.{range_with_len}
use Rattle.std.proofs.lemmas.List.{map-append}
use Rattle.std.proofs.lemmas.List.Elements.{filter_map-append}
use Rattle.std.proofs.lemmas.List.FromFn.{length-map-range_with_len}
use Rattle.event_worlds.specs.attempt_fates.declared.fates.Attempt.{Attempt}
use Rattle.event_worlds.specs.bolt_ops.RowOp.{Custom}
use Rattle.event_worlds.specs.commit_turns.Turns.{decided}
use Rattle.event_engine.specs.Engines.{Gives, Goes, Happens, HasOutcomes, shape, sources}
use Rattle.event_engine.specs.declared.engine.Engine.{Engine}
use Rattle.event_engine.proofs.SeatLemmas.{draws-none}
use Rattle.event_worlds.specs.Worlds.{Known, Step, World, acker_step, drew, is_over, next, next_outcome, next_words, of_acker, of_open, of_outcome, of_shut, of_task, of_tick, of_turn, open_step, outcome_by, outcome_step, outcomes_of, run, shut_step, step, task_at, task_needs, task_step, tick_step, turn_needs, turn_step, with_progress}
use Rattle.event_worlds.specs.output_collector.Draws.{Draws}
use Rattle.event_worlds.specs.state_parts.declared.answer.CommitOutcome.{CommitOutcome}
use Rattle.event_worlds.specs.state_parts.declared.answer.CommitOutcome.TheVariants.{Done}
use Rattle.event_worlds.specs.storm_ids.declared.ids.Ids.{Ghosts}
use Rattle.event_worlds.specs.topology_plan.Topology.{Topology, tasks_in_all}
use Rattle.event_worlds.specs.taken_records.Cuts.{Cut}

-- ---- lists

range-append : (k m n : ℕ) → range_with_len k (m + n) ≡ range_with_len k m ++ range_with_len (k + m) n
range-append k zero n = ap (λ (j : ℕ). range_with_len k j) (let e : zero + n ≡ n = omega arith in e) ∙ ap (λ (j : ℕ). range_with_len j n) (let e : k ≡ k + zero = omega arith in e)
range-append k (suc m) n =
    ap (λ (j : ℕ). range_with_len k j) (let e : suc m + n ≡ suc (m + n) = omega arith in e) ∙ (λ i. k ∷ range-append (k + 1) m n i)
    ∙ ap (λ (j : ℕ). k ∷ range_with_len (k + 1) m ++ range_with_len j n) (let e : k + 1 + m ≡ k + suc m = omega arith in e)

pub words-append : (w : ℕ → ℕ) (k m n : ℕ) → map w (range_with_len k (m + n)) ≡ map w (range_with_len k m) ++ map w (range_with_len (k + m) n)
words-append w k m n = ap (map w) (range-append k m n) ∙ map-append w (range_with_len k m) (range_with_len (k + m) n)

pub append-split : {X : Type 0} (xs xs' ys ys' : List X) → length xs ≡ length xs' → xs ++ ys ≡ xs' ++ ys' → (xs ≡ xs') × (ys ≡ ys')
append-split [] [] ys ys' len is = (refl, is)
append-split [] (x ∷ xs') ys ys' len is = absurd (omega arith)
append-split (x ∷ xs) [] ys ys' len is = absurd (omega arith)
append-split (x ∷ xs) (x' ∷ xs') ys ys' len is =
    let head : x ≡ x' = cc in
    let tail : xs ++ ys ≡ xs' ++ ys' = cc in
    let rest = append-split xs xs' ys ys' (omega arith) tail in ((λ i. head i ∷ rest.0 i), rest.1)

get-set-at : {X : Type 0} (xs : List X) (n : ℕ) (x y : X) → slice_get xs n ≡ Some x → slice_get (set xs n y) n ≡ Some y
get-set-at [] n x y is = absurd (let e : None ≡ Some x = is in cc)
get-set-at (z ∷ zs) zero x y is = refl
get-set-at (z ∷ zs) (suc n) x y is = get-set-at zs n x y is

not_next : (s n : ℕ) → (suc s == suc n) ≡ false → (s == n) ≡ false
not_next s n is = cases (s == n) refl
  where
    cases : (b : Bool) → (s == n) ≡ b → b ≡ false
    cases true same = absurd (true≢false (sym (eq-eqb (suc s) (suc n) (ap (λ (k : ℕ). suc k) (eqb-true s n same))) ∙ is))
    cases false same = refl

get-set-else : {X : Type 0} (xs : List X) (n s : ℕ) (y : X) → (s == n) ≡ false → slice_get (set xs n y) s ≡ slice_get xs s
get-set-else [] n s y is = refl
get-set-else (z ∷ zs) zero zero y is = absurd (true≢false is)
get-set-else (z ∷ zs) zero (suc s) y is = refl
get-set-else (z ∷ zs) (suc n) zero y is = refl
get-set-else (z ∷ zs) (suc n) (suc s) y is = get-set-else zs n s y (not_next s n is)

pub get-after : {X : Type 0} (xs ys : List X) (x d : X) → get_or (xs ++ x ∷ ys) (length xs) d ≡ x
get-after [] ys x d = refl
get-after (z ∷ zs) ys x d = get-after zs ys x d

-- ---- draws

pub draws-then : {I : Type 0} (tells : I → (ℕ → ℕ) → ℕ → Type 0) (a b c : I) (xs ys : List ℕ) → Draws tells a xs b → Draws tells b ys c → Draws tells a (xs ++ ys) c
draws-then tells a b c xs ys first second = record {
  are_next = λ words k told.
      let on = second.are_next words (k + length xs) (first.goes_on words k told) in
      (λ i. first.are_next words k told i ++ on i) ∙ sym (ap (λ (n : ℕ). map words (range_with_len k n)) (length-append xs ys) ∙ words-append words k (length xs) (length ys));
  goes_on = λ words k told.
      subst (tells c words) (let len = length-append xs ys in let e : k + length xs + length ys ≡ k + length (xs ++ ys) = omega arith in e) (second.goes_on words (k + length xs) (first.goes_on words k told));
}

-- words that begin with two pieces begin with the first, and go on with the second
pub gives-parts : (words : ℕ → ℕ → ℕ) (counts : ℕ → ℕ) (xs ys : ℕ → List ℕ) → Gives words counts (λ s. xs s ++ ys s) → Gives words counts xs × Gives words (λ s. counts s + length (xs s)) ys
gives-parts words counts xs ys gives =
    let parts : (s : ℕ) → (map (words s) (range_with_len (counts s) (length (xs s))) ≡ xs s) × (map (words s) (range_with_len (counts s + length (xs s)) (length (ys s))) ≡ ys s) =
    λ s. append-split _ _ _ _ (length-map-range_with_len (words s) (counts s) (length (xs s)))
    (sym (words-append (words s) (counts s) (length (xs s)) (length (ys s))) ∙ ap (λ (n : ℕ). map (words s) (range_with_len (counts s) n)) (sym (length-append (xs s) (ys s))) ∙ gives s) in
    (λ s. (parts s).0, λ s. (parts s).1)

-- ---- outcomes

pub outcomes-append : (xs ys : List Attempt) → outcomes_of (xs ++ ys) ≡ outcomes_of xs ++ outcomes_of ys
outcomes-append xs ys = filter_map-append (λ (a : Attempt). outcome_by a.end) xs ys

-- outcomes that begin with those of more fates begin with those of the first
has-first : (outcomes : List CommitOutcome) (fates more all : List Attempt) → all ≡ fates ++ more → HasOutcomes outcomes all → HasOutcomes outcomes fates
has-first outcomes fates more all is has = record {
  rest = outcomes_of more ++ has.rest;
  first = has.first ∙ ap (λ xs. xs ++ has.rest) (ap outcomes_of is ∙ outcomes-append fates more) ∙ append_assoc (outcomes_of fates) (outcomes_of more) has.rest;
}

-- the outcome that the fates tell next is the next one
pub next-told : (outcomes : List CommitOutcome) (old new : List Attempt) (how : CommitOutcome) → outcomes_of new ≡ outcomes_of old ++ how ∷ [] → HasOutcomes outcomes new → next_outcome outcomes old ≡ how
next-told outcomes old new how is has =
    ap (λ xs. get_or xs (length (outcomes_of old)) Done) (has.first ∙ ap (λ xs. xs ++ has.rest) is ∙ append_assoc (outcomes_of old) (how ∷ []) has.rest)
    ∙ get-after (outcomes_of old) has.rest how Done

-- ---- runs

module _ (t : Topology) (custom : Custom) (cut : Cut) (words : ℕ → ℕ → ℕ) (outcomes : List CommitOutcome) where
  pub run-append : (xs ys : List Step) (k : Known) → run t custom cut words outcomes (xs ++ ys) k ≡ run t custom cut words outcomes ys (run t custom cut words outcomes xs k)
  run-append [] ys k = refl
  run-append (x ∷ xs) ys k = run-append xs ys (next t custom cut words outcomes x k)

  run-over : (xs : List Step) (k : Known) → is_over t cut k.world ≡ true → run t custom cut words outcomes xs k ≡ k
  run-over [] k is = refl
  run-over (x ∷ xs) k is = ap (λ (b : Bool). run t custom cut words outcomes xs (cond b k (step t custom cut words outcomes x k))) is ∙ run-over xs k is

-- ---- the laws of the steps

module _ (t : Topology) (custom : Custom) (cut : Cut) where
  pub task_law : (n : ℕ) (words : ℕ → ℕ → ℕ) (outcomes : List CommitOutcome) (k : Known)
      → step t custom cut words outcomes (of_task n) k ≡ record { world = task_step t custom n (next_words words k.counts n (task_needs t custom (task_at t n k.world))) k.world; counts = drew n (task_needs t custom (task_at t n k.world)) k.counts }
  unfolding step
  task_law n words outcomes k = refl

  turn_law : (words : ℕ → ℕ → ℕ) (outcomes : List CommitOutcome) (k : Known)
      → step t custom cut words outcomes of_turn k ≡ record { world = turn_step t cut (next_words words k.counts (tasks_in_all t) (turn_needs t cut k.world)) k.world; counts = drew (tasks_in_all t) (turn_needs t cut k.world) k.counts }
  unfolding step
  turn_law words outcomes k = refl

  pub acker_law : (n : ℕ) (words : ℕ → ℕ → ℕ) (outcomes : List CommitOutcome) (k : Known) → step t custom cut words outcomes (of_acker n) k ≡ record { world = acker_step t n k.world; counts = k.counts }
  unfolding step
  acker_law n words outcomes k = refl

  outcome_law : (words : ℕ → ℕ → ℕ) (outcomes : List CommitOutcome) (k : Known) → step t custom cut words outcomes of_outcome k ≡ record { world = outcome_step t cut (next_outcome outcomes k.world.fates) k.world; counts = k.counts }
  unfolding step
  outcome_law words outcomes k = refl

  tick_law : (words : ℕ → ℕ → ℕ) (outcomes : List CommitOutcome) (k : Known) → step t custom cut words outcomes of_tick k ≡ record { world = tick_step k.world; counts = k.counts }
  unfolding step
  tick_law words outcomes k = refl

  shut_law : (q : ℕ) (words : ℕ → ℕ → ℕ) (outcomes : List CommitOutcome) (k : Known) → step t custom cut words outcomes (of_shut q) k ≡ record { world = shut_step q k.world; counts = k.counts }
  unfolding step
  shut_law q words outcomes k = refl

  open_law : (q : ℕ) (words : ℕ → ℕ → ℕ) (outcomes : List CommitOutcome) (k : Known) → step t custom cut words outcomes (of_open q) k ≡ record { world = open_step q k.world; counts = k.counts }
  unfolding step
  open_law q words outcomes k = refl

-- ---- pieces of work

module _ {I : Type 0} {g : Ghosts I} (tells : I → (ℕ → ℕ) → ℕ → Type 0) (t : Topology) (custom : Custom) (cut : Cut) where
  pub goes-none : (e : Engine I g) → Goes tells t custom cut [] e e
  goes-none e = record {
    given = λ s. [];
    draws = λ s before at. (before, at, draws-none tells before);
    none = λ s off. (refl, off);
    more = [];
    added = sym (append-nil e.fates);
    runs = λ words counts outcomes gives has. (refl, λ s. omega arith);
  }

  -- when all is over nothing changes
  pub goes-over : (xs : List Step) (e : Engine I g) → is_over t cut (shape e) ≡ true → Goes tells t custom cut xs e e
  goes-over xs e is = record {
    given = λ s. [];
    draws = λ s before at. (before, at, draws-none tells before);
    none = λ s off. (refl, off);
    more = [];
    added = sym (append-nil e.fates);
    runs = λ words counts outcomes gives has.
        let same = run-over t custom cut words outcomes xs (record { world = shape e; counts = counts }) is in (
          ap (λ (k : Known). k.world) same,
          λ s. ap (λ (k : Known). k.counts s) same ∙ (let e : counts s ≡ counts s + 0 = omega arith in e),
        );
  }

  pub goes-then : (xs ys : List Step) (a b c : Engine I g) → Goes tells t custom cut xs a b → Goes tells t custom cut ys b c → Goes tells t custom cut (xs ++ ys) a c
  goes-then xs ys a b c first second = record {
    given = λ s. first.given s ++ second.given s;
    draws = λ s before at.
        let d = first.draws s before at in
        let e = second.draws s d.0 d.1 in (e.0, e.1, draws-then tells before d.0 e.0 (first.given s) (second.given s) d.2 e.2);
    none = λ s off.
        let one = first.none s off in
        let two = second.none s one.1 in ((λ i. one.0 i ++ two.0 i), two.1);
    more = first.more ++ second.more;
    added = second.added ∙ ap (λ (fs : List Attempt). fs ++ second.more) first.added ∙ append_assoc a.fates first.more second.more;
    runs = λ words counts outcomes gives has.
        let parts : (s : ℕ) → (map (words s) (range_with_len (counts s) (length (first.given s))) ≡ first.given s) × (map (words s) (range_with_len (counts s + length (first.given s)) (length (second.given s))) ≡ second.given s) =
        λ s. append-split _ _ _ _ (length-map-range_with_len (words s) (counts s) (length (first.given s)))
        (sym (words-append (words s) (counts s) (length (first.given s)) (length (second.given s))) ∙ ap (λ (n : ℕ). map (words s) (range_with_len (counts s) n)) (sym (length-append (first.given s) (second.given s))) ∙ gives s) in
        let one = first.runs words counts outcomes (λ s. (parts s).0) (has-first outcomes b.fates second.more c.fates second.added has) in
        let mid : Known = run t custom cut words outcomes xs (record { world = shape a; counts = counts }) in
        let two = second.runs words mid.counts outcomes (λ s. ap (λ (n : ℕ). map (words s) (range_with_len n (length (second.given s)))) (one.1 s) ∙ (parts s).1) has in
        let all : run t custom cut words outcomes (xs ++ ys) (record { world = shape a; counts = counts }) ≡ run t custom cut words outcomes ys (record { world = shape b; counts = mid.counts }) =
        run-append t custom cut words outcomes xs ys (record { world = shape a; counts = counts }) ∙ (λ i. run t custom cut words outcomes ys (record { world = one.0 i; counts = mid.counts })) in (
          ap (λ (k : Known). k.world) all ∙ two.0,
          λ s. ap (λ (k : Known). k.counts s) all ∙ two.1 s ∙ (let e = one.1 s in let len = length-append (first.given s) (second.given s) in omega arith),
        );
  }

  -- what is given and added by two pieces, one after the other
  pub then-more : (xs ys : List Step) (a b c : Engine I g) (first : Goes tells t custom cut xs a b) (second : Goes tells t custom cut ys b c) → (goes-then xs ys a b c first second).more ≡ first.more ++ second.more
  unfolding goes-then
  then-more xs ys a b c first second = refl

  pub gives-both : (xs ys : List Step) (a b c : Engine I g) (first : Goes tells t custom cut xs a b) (second : Goes tells t custom cut ys b c) (words : ℕ → ℕ → ℕ) (counts : ℕ → ℕ) (outcomes : List CommitOutcome)
      → Gives words counts (goes-then xs ys a b c first second).given → HasOutcomes outcomes c.fates
      → Gives words counts first.given × HasOutcomes outcomes b.fates × Gives words (run t custom cut words outcomes xs (record { world = shape a; counts = counts })).counts second.given
  unfolding goes-then
  gives-both xs ys a b c first second words counts outcomes gives has =
      let parts : (s : ℕ) → (map (words s) (range_with_len (counts s) (length (first.given s))) ≡ first.given s) × (map (words s) (range_with_len (counts s + length (first.given s)) (length (second.given s))) ≡ second.given s) =
      λ s. append-split _ _ _ _ (length-map-range_with_len (words s) (counts s) (length (first.given s)))
      (sym (words-append (words s) (counts s) (length (first.given s)) (length (second.given s))) ∙ ap (λ (n : ℕ). map (words s) (range_with_len (counts s) n)) (sym (length-append (first.given s) (second.given s))) ∙ gives s) in
      let has_first = has-first outcomes b.fates second.more c.fates second.added has in
      let one = first.runs words counts outcomes (λ s. (parts s).0) has_first in (
        λ s. (parts s).0,
        has_first,
        λ s. ap (λ (n : ℕ). map (words s) (range_with_len n (length (second.given s)))) (one.1 s) ∙ (parts s).1,
      )

  -- a step for which source n gave ids
  goes-step : (s : Step) (n : ℕ) (needs : World → ℕ) (change : List ℕ → World → World) (old new : Engine I g)
      → ((words : ℕ → ℕ → ℕ) (outcomes : List CommitOutcome) (k : Known)
      → step t custom cut words outcomes s k ≡ record { world = change (next_words words k.counts n (needs k.world)) k.world; counts = drew n (needs k.world) k.counts })
      → is_over t cut (shape old) ≡ false → Happens tells n (needs (shape old)) change old new → Goes tells t custom cut (s ∷ []) old new
  goes-step s n needs change old new law going done = record {
    given = λ r. cond (r == n) done.ids [];
    draws = λ r before at. drawn r before at (r == n) refl;
    none = λ r off. idle r off (r == n) refl;
    more = done.more;
    added = done.added;
    runs = λ words counts outcomes gives has.
        let k : Known = record { world = shape old; counts = counts } in
        let ids : next_words words counts n (needs (shape old)) ≡ done.ids =
        ap (λ (j : ℕ). map (words n) (range_with_len (counts n) j)) (sym done.enough) ∙ subst (λ (b : Bool). map (words n) (range_with_len (counts n) (length (cond b done.ids []))) ≡ cond b done.ids []) (eq-eqb n n refl) (gives n) in
        let steps : run t custom cut words outcomes (s ∷ []) k ≡ step t custom cut words outcomes s k = ap (λ (b : Bool). cond b k (step t custom cut words outcomes s k)) going in
        let all = steps ∙ law words outcomes k in (
          ap (λ (j : Known). j.world) all ∙ ap (λ xs. change xs (shape old)) ids ∙ sym done.same,
          λ r. ap (λ (j : Known). j.counts r) all ∙ counted r (counts r) (r == n),
        );
  }
    where
      counted : (r c : ℕ) (b : Bool) → cond b (c + needs (shape old)) c ≡ c + length (cond b done.ids [])
      counted r c true = ap (λ (j : ℕ). c + j) (sym done.enough)
      counted r c false = omega arith

      idle : (r : ℕ) → slice_get (sources old) r ≡ None → (b : Bool) → (r == n) ≡ b → (cond b done.ids [] ≡ []) × (slice_get (sources new) r ≡ None)
      idle r off true is = absurd (let e : None ≡ Some done.drawn.before = sym off ∙ ap (slice_get (sources old)) (eqb-true r n is) ∙ done.drawn.at in cc)
      idle r off false is = (refl, ap (λ xs. slice_get xs r) done.drawn.others ∙ get-set-else (sources old) n r done.drawn.after is ∙ off)

      drawn : (r : ℕ) (before : I) → slice_get (sources old) r ≡ Some before → (b : Bool) → (r == n) ≡ b → (after : I) × (slice_get (sources new) r ≡ Some after) × Draws tells before (cond b done.ids []) after
      drawn r before at true is =
          let d = done.drawn in
          let same = eqb-true r n is in
          let one : Some before ≡ Some d.before = sym at ∙ ap (slice_get (sources old)) same ∙ d.at in
          let before_is : before ≡ d.before = cc in (
            d.after,
            ap (slice_get (sources new)) same ∙ ap (λ xs. slice_get xs n) d.others ∙ get-set-at (sources old) n d.before d.after d.at,
            subst (λ (x : I). Draws tells x done.ids d.after) (sym before_is) d.draws,
          )
      drawn r before at false is =
          let d = done.drawn in (before, ap (λ xs. slice_get xs r) d.others ∙ get-set-else (sources old) n r d.after is ∙ at, draws-none tells before)

  -- a step for which no source gave any, where outcomes begin with those of the fates
  goes-plain : (s : Step) (change : List CommitOutcome → World → World) (more : List Attempt) (old new : Engine I g)
      → ((words : ℕ → ℕ → ℕ) (outcomes : List CommitOutcome) (k : Known) → step t custom cut words outcomes s k ≡ record { world = change outcomes k.world; counts = k.counts })
      → is_over t cut (shape old) ≡ false → new.fates ≡ old.fates ++ more → ((outcomes : List CommitOutcome) → HasOutcomes outcomes new.fates → shape new ≡ change outcomes (shape old))
      → sources new ≡ sources old → Goes tells t custom cut (s ∷ []) old new
  goes-plain s change more old new law going added same sources_are = record {
    given = λ r. [];
    draws = λ r before at. (before, ap (λ xs. slice_get xs r) sources_are ∙ at, draws-none tells before);
    none = λ r off. (refl, ap (λ xs. slice_get xs r) sources_are ∙ off);
    more = more;
    added = added;
    runs = λ words counts outcomes gives has.
        let k : Known = record { world = shape old; counts = counts } in
        let all = ap (λ (b : Bool). cond b k (step t custom cut words outcomes s k)) going ∙ law words outcomes k in (
          ap (λ (j : Known). j.world) all ∙ sym (same outcomes has),
          λ r. ap (λ (j : Known). j.counts r) all ∙ (let e : counts r ≡ counts r + 0 = omega arith in e),
        );
  }

  -- ---- each kind of step

  module _ (old new : Engine I g) (going : is_over t cut (shape old) ≡ false) where
    pub goes-task : (n : ℕ) → Happens tells n (task_needs t custom (task_at t n (shape old))) (λ ids w. task_step t custom n ids w) old new → Goes tells t custom cut (of_task n ∷ []) old new
    goes-task n done = goes-step (of_task n) n (λ w. task_needs t custom (task_at t n w)) (λ ids w. task_step t custom n ids w) old new (task_law t custom cut n) going done

    pub goes-turn : Happens tells (tasks_in_all t) (turn_needs t cut (shape old)) (λ ids w. turn_step t cut ids w) old new → Goes tells t custom cut (of_turn ∷ []) old new
    goes-turn done = goes-step of_turn (tasks_in_all t) (turn_needs t cut) (λ ids w. turn_step t cut ids w) old new (turn_law t custom cut) going done

    pub goes-acker : (n : ℕ) → shape new ≡ acker_step t n (shape old) → sources new ≡ sources old → Goes tells t custom cut (of_acker n ∷ []) old new
    goes-acker n same sources_are =
        goes-plain (of_acker n) (λ outcomes w. acker_step t n w) [] old new (acker_law t custom cut n) going (ap (λ (w : World). w.fates) same ∙ sym (append-nil old.fates)) (λ outcomes has. same) sources_are

    pub goes-tick : shape new ≡ tick_step (shape old) → sources new ≡ sources old → Goes tells t custom cut (of_tick ∷ []) old new
    goes-tick same sources_are = goes-plain of_tick (λ outcomes w. tick_step w) [] old new (tick_law t custom cut) going (ap (λ (w : World). w.fates) same ∙ sym (append-nil old.fates)) (λ outcomes has. same) sources_are

    pub goes-shut : (q : ℕ) → shape new ≡ shut_step q (shape old) → sources new ≡ sources old → Goes tells t custom cut (of_shut q ∷ []) old new
    goes-shut q same sources_are =
        goes-plain (of_shut q) (λ outcomes w. shut_step q w) [] old new (shut_law t custom cut q) going (ap (λ (w : World). w.fates) same ∙ sym (append-nil old.fates)) (λ outcomes has. same) sources_are

    pub goes-open : (q : ℕ) → shape new ≡ open_step q (shape old) → sources new ≡ sources old → Goes tells t custom cut (of_open q ∷ []) old new
    goes-open q same sources_are =
        goes-plain (of_open q) (λ outcomes w. open_step q w) [] old new (open_law t custom cut q) going (ap (λ (w : World). w.fates) same ∙ sym (append-nil old.fates)) (λ outcomes has. same) sources_are

    -- a commit came to this
    pub goes-outcome : (how : CommitOutcome) (more : List Attempt) → new.fates ≡ old.fates ++ more → outcomes_of new.fates ≡ outcomes_of old.fates ++ how ∷ []
        → shape new ≡ outcome_step t cut how (shape old) → sources new ≡ sources old → Goes tells t custom cut (of_outcome ∷ []) old new
    goes-outcome how more added told same sources_are =
        goes-plain of_outcome (λ outcomes w. outcome_step t cut (next_outcome outcomes w.fates) w) more old new (outcome_law t custom cut) going added
        (λ outcomes has. same ∙ ap (λ (h : CommitOutcome). outcome_step t cut h (shape old)) (sym (next-told outcomes old.fates new.fates how told has))) sources_are

  -- where no commit was ordered an outcome changes nothing
  pub goes-idle : (e : Engine I g) → (is_over t cut (shape e) ≡ false → (shape e).desk.out ≡ false) → Goes tells t custom cut (of_outcome ∷ []) e e
  goes-idle e idle = by (is_over t cut (shape e)) refl
    where
      by : (b : Bool) → is_over t cut (shape e) ≡ b → Goes tells t custom cut (of_outcome ∷ []) e e
      by true over = goes-over (of_outcome ∷ []) e over
      by false going =
          goes-plain of_outcome (λ outcomes w. outcome_step t cut (next_outcome outcomes w.fates) w) [] e e (outcome_law t custom cut) going (sym (append-nil e.fates))
          (λ outcomes has. sym (ap (λ (b : Bool). cond b (with_progress t cut (decided t cut (next_outcome outcomes e.fates) (shape e).desk) (shape e)) (shape e)) (idle going))) refl
