-- Records that are taken into windows one by one.
use Rattle.std.proofs.Common.{◌≡◌, ◌∙◌, ◌+◌, ℕ, List, [], ◌∷◌, ◌++◌, map, sym, ap, arith}
use Rattle.std.proofs.lemmas.List.{append-nil, append_assoc, map-append}
use Rattle.state_tallies.specs.declared.tallies.KeyCount.{KeyCount}
use Rattle.state_tallies.specs.Tallies.{capped, count_of as counted}
use Rattle.tracked_trees.specs.Tries.{count_of}
use Rattle.tree_model.specs.bolt_ops.RowOp.{Custom}
use Rattle.tree_model.specs.counted_items.Weights.{weigh}
use Rattle.tree_model.proofs.counted_items.Weighing.{weigh-append}
use Rattle.tree_model.specs.storm_values.declared.value.Value.{Value}
use Rattle.tree_model.specs.topology_plan.Topology.{Topology}
use Rattle.track_report.specs.declared.ending.RecordEnd.{RecordEnd}
use Rattle.track_runs.specs.Steps.{AddsCounts, counts_with, ends_with}
use Rattle.track_runs.specs.Tracked.{end_of}

-- one more record at the end of a window, before the rest
one_more : {X : Type 0} (xs : List X) (x : X) (rest : List X) → (xs ++ x ∷ []) ++ rest ≡ xs ++ x ∷ rest
one_more xs x rest = append_assoc xs (x ∷ []) rest

capped_sum : (a b c : ℕ) → capped (capped (a + b) + c) ≡ capped (a + (b + c))
capped_sum a b c = omega arith

module _ (t : Topology) (custom : Custom) where
  -- a record in the window, where this is not full
  pub ends_kept : (ends : List RecordEnd) (window filled : List (List Value)) (row : List Value) (rest : List (List Value)) → filled ≡ window ++ row ∷ [] → ends_with t custom ends (filled ++ rest) ≡ ends_with t custom ends (window ++ row ∷ rest)
  ends_kept ends window filled row rest is = ap (λ rows. ends_with t custom ends (rows ++ rest)) is ∙ ap (ends_with t custom ends) (one_more window row rest)

  pub counts_kept : (tallies : List (List KeyCount)) (window filled : List (List Value)) (row : List Value) (rest : List (List Value)) (state : ℕ) (key : List ℕ) → filled ≡ window ++ row ∷ [] → counts_with t custom tallies (filled ++ rest) state key ≡ counts_with t custom tallies (window ++ row ∷ rest) state key
  counts_kept tallies window filled row rest state key is =
      ap (λ rows. counts_with t custom tallies (rows ++ rest) state key) is ∙ ap (λ rows. counts_with t custom tallies rows state key) (one_more window row rest)

  -- and where a full window was tracked
  ends_moved : (old new : List RecordEnd) (rows rest : List (List Value)) → new ≡ old ++ map (end_of t custom t.attempts) rows → ends_with t custom new rest ≡ ends_with t custom old (rows ++ rest)
  ends_moved old new rows rest is =
      ap (λ ends. ends ++ map (end_of t custom t.attempts) rest) is
      ∙ append_assoc old (map (end_of t custom t.attempts) rows) (map (end_of t custom t.attempts) rest)
      ∙ ap (λ ends. old ++ ends) (sym (map-append (end_of t custom t.attempts) rows rest))

  counts_moved : (old new : List (List KeyCount)) (rows rest : List (List Value)) (state : ℕ) (key : List ℕ) → AddsCounts old new (λ s k. weigh (count_of t custom s k t.attempts) rows) → counts_with t custom new rest state key ≡ counts_with t custom old (rows ++ rest) state key
  counts_moved old new rows rest state key adds =
      ap (λ (n : ℕ). capped (n + weigh (count_of t custom state key t.attempts) rest)) (adds state key)
      ∙ capped_sum (counted old state key) (weigh (count_of t custom state key t.attempts) rows) (weigh (count_of t custom state key t.attempts) rest)
      ∙ ap (λ (n : ℕ). capped (counted old state key + n)) (sym (weigh-append (count_of t custom state key t.attempts) rows rest))

  pub ends_filled : (old new : List RecordEnd) (window filled : List (List Value)) (row : List Value) (rest : List (List Value)) → filled ≡ window ++ row ∷ [] → new ≡ old ++ map (end_of t custom t.attempts) filled → ends_with t custom new rest ≡ ends_with t custom old (window ++ row ∷ rest)
  ends_filled old new window filled row rest is moved = ends_moved old new filled rest moved ∙ ends_kept old window filled row rest is

  pub counts_filled : (old new : List (List KeyCount)) (window filled : List (List Value)) (row : List Value) (rest : List (List Value)) (state : ℕ) (key : List ℕ) → filled ≡ window ++ row ∷ [] → AddsCounts old new (λ s k. weigh (count_of t custom s k t.attempts) filled)
      → counts_with t custom new rest state key ≡ counts_with t custom old (window ++ row ∷ rest) state key
  counts_filled old new window filled row rest state key is adds = counts_moved old new filled rest state key adds ∙ counts_kept old window filled row rest state key is

  -- the last window is tracked where no record is left
  pub counts_end : (old mid new : List (List KeyCount)) (rows window rest : List (List Value)) → rest ≡ [] → ((state : ℕ) (key : List ℕ) → counts_with t custom mid (window ++ rest) state key ≡ counts_with t custom old rows state key)
      → AddsCounts mid new (λ state key. weigh (count_of t custom state key t.attempts) window) → AddsCounts old new (λ state key. weigh (count_of t custom state key t.attempts) rows)
  counts_end old mid new rows window rest none same adds = λ state key.
      adds state key
      ∙ ap (λ all. counts_with t custom mid all state key) (sym (append-nil window))
      ∙ ap (λ more. counts_with t custom mid (window ++ more) state key) (sym none)
      ∙ same state key
