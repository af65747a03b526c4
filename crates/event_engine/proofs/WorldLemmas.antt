-- An engine that was started and went through steps is the world after them.
use Rattle.std.proofs.Common.{◌≡◌, ℕ, ◌+◌, List, [], ◌++◌, length, map, Option, None, Some, get_or, sym, refl, ap, subst, ◌∙◌, length-append, arith}
use Rattle.std.specs.Prelude.{slice_get}
use Rattle.std.specs.List.{range_with_len}
use Rattle.std.proofs.lemmas.List.{get_or_append_left}
use Rattle.std.proofs.lemmas.List.FromFn.{fill_by_all, length-map-range_with_len}
use Rattle.event_worlds.specs.bolt_ops.RowOp.{Custom}
use Rattle.event_engine.specs.Engines.{Gives, Goes, HasOutcomes, shape, sources}
use Rattle.event_engine.specs.Starts.{IsStarted}
use Rattle.event_engine.specs.declared.engine.Engine.{Engine}
use Rattle.event_engine.proofs.GoesLemmas.{append-split, words-append}
use Rattle.event_worlds.specs.Worlds.{Step, World, first_counts, run, world_after}
use Rattle.event_worlds.specs.output_collector.Draws.{Draws}
use Rattle.event_worlds.specs.state_parts.declared.answer.CommitOutcome.{CommitOutcome}
use Rattle.event_worlds.specs.storm_ids.declared.ids.Ids.{Ghosts}
use Rattle.event_worlds.specs.topology_plan.Topology.{Topology}
use Rattle.event_worlds.specs.taken_records.Cuts.{Cut}

-- words that are the numbers of two lists, one after the other
joined_words : (first more : ℕ → List ℕ) → ℕ → ℕ → ℕ
joined_words first more s k = get_or (first s ++ more s) k 0

joined_first : (first more : ℕ → List ℕ) → Gives (joined_words first more) (λ s. 0) first
unfolding joined_words
joined_first first more s =
    sym (fill_by_all (λ k. get_or (first s ++ more s) k 0) (first s) (length (first s)) 0 refl (λ k below. sym (get_or_append_left (first s) (more s) 0 k below)))

joined_more : (first more : ℕ → List ℕ) → Gives (joined_words first more) (λ s. length (first s)) more
unfolding joined_words
joined_more first more s =
    let word : ℕ → ℕ = λ (k : ℕ). get_or (first s ++ more s) k 0 in
    let all : map word (range_with_len 0 (length (first s ++ more s))) ≡ first s ++ more s = sym (fill_by_all word (first s ++ more s) (length (first s ++ more s)) 0 refl (λ k below. refl)) in
    let parts : map word (range_with_len 0 (length (first s))) ++ map word (range_with_len (0 + length (first s)) (length (more s))) ≡ first s ++ more s =
    sym (words-append word 0 (length (first s)) (length (more s))) ∙ ap (λ (n : ℕ). map word (range_with_len 0 n)) (sym (length-append (first s) (more s))) ∙ all in
    let same : length (first s) ≡ 0 + length (first s) = omega arith in
    ap (λ (n : ℕ). map word (range_with_len n (length (more s)))) same
    ∙ (append-split (map word (range_with_len 0 (length (first s)))) (first s) (map word (range_with_len (0 + length (first s)) (length (more s)))) (more s) (length-map-range_with_len word 0 (length (first s))) parts).1

module _ {I : Type 0} {g : Ghosts I} (told : (ℕ → ℕ → ℕ) → Type 0) (tells : I → (ℕ → ℕ) → ℕ → Type 0) (t : Topology) (cut : Cut) (old : Engine I g) (started : IsStarted told tells t cut old) (given : ℕ → List ℕ) where
  -- some words begin with those that were given, at the start and after it
  pub words_begin : (words : ℕ → ℕ → ℕ) × Gives words (λ s. 0) started.given × Gives words (first_counts t words) given
  words_begin =
      let words : ℕ → ℕ → ℕ = joined_words started.given given in (
        words,
        joined_first started.given given,
        λ s. subst (λ (n : ℕ). map (words s) (range_with_len n (length (given s))) ≡ given s) (started.counted words s) (joined_more started.given given s),
      )

  -- words that are told go on so, where sources drew what was given
  pub told_gives : (new : Engine I g)
      → ((s : ℕ) (before : I) → slice_get (sources old) s ≡ Some before → (after : I) × (slice_get (sources new) s ≡ Some after) × Draws tells before (given s) after)
      → ((s : ℕ) → slice_get (sources old) s ≡ None → (given s ≡ []) × (slice_get (sources new) s ≡ None))
      → (words : ℕ → ℕ → ℕ) → told words → Gives words (first_counts t words) given
  told_gives new draws none words is = λ s. gives s (slice_get (sources old) s) refl
    where
      gives : (s : ℕ) (found : Option I) → slice_get (sources old) s ≡ found → map (words s) (range_with_len (first_counts t words s) (length (given s))) ≡ given s
      gives s None off = rw (none s off).0 refl
      gives s (Some source) at =
          sym ((draws s source at).2.are_next (words s) (first_counts t words s) (subst (tells source (words s)) (started.counted words s) (started.goes_on words is s source at)))

module _ {I : Type 0} {g : Ghosts I} (told : (ℕ → ℕ → ℕ) → Type 0) (tells : I → (ℕ → ℕ) → ℕ → Type 0) (t : Topology) (custom : Custom) (cut : Cut) (steps : List Step) (old new : Engine I g)
    (started : IsStarted told tells t cut old) (goes : Goes tells t custom cut steps old new) where
  pub from_start : (words : ℕ → ℕ → ℕ) (outcomes : List CommitOutcome) → Gives words (λ s. 0) started.given → Gives words (first_counts t words) goes.given → HasOutcomes outcomes new.fates
      → shape new ≡ world_after t custom cut words outcomes steps
  from_start words outcomes begins gives has =
      sym (goes.runs words (first_counts t words) outcomes gives has).0
      ∙ ap (λ (w : World). (run t custom cut words outcomes steps (record { world = w; counts = first_counts t words })).world) (started.first words begins)

  -- by words that are told
  pub told_world : (words : ℕ → ℕ → ℕ) → told words → (outcomes : List CommitOutcome) → HasOutcomes outcomes new.fates → shape new ≡ world_after t custom cut words outcomes steps
  told_world words is outcomes has = from_start words outcomes (started.gives words is) (told_gives told tells t cut old started goes.given new goes.draws goes.none words is) has

  -- some words begin with those that were given, at the start and after it
  pub some_words : (words : ℕ → ℕ → ℕ) × Gives words (λ s. 0) started.given × Gives words (first_counts t words) goes.given
  some_words = words_begin told tells t cut old started goes.given
