-- How records end that are tried attempt after attempt, and what their tries reach.
use Rattle.std.proofs.Common.{◌≡◌, ◌∙◌, ◌+◌, ◌-◌, ◌≤◌, ◌^◌, ℕ, zero, suc, Bool, true, false, not, ◌||◌, if◌then◌else◌, List, [], ◌∷◌, All, length, map, replicate, Result, Ok, Err, OnOk, refl, ap, ap₂, arith}
use Rattle.std.specs.List.{filter}
use Rattle.std.proofs.lemmas.List.Elements.{All-filter}
use Rattle.state_tallies.specs.declared.tallies.KeyCount.{KeyCount}
use Rattle.state_tallies.specs.Tallies.{AreFew, capped, count_of as counted}
use Rattle.tracked_trees.specs.Reached.{is_good}
use Rattle.tracked_trees.specs.Tries.{acked_from, count_at, count_from, count_of, tries_from}
use Rattle.tree_model.specs.bolt_ops.RowOp.{Custom}
use Rattle.tree_model.specs.counted_items.Weights.{weigh}
use Rattle.tree_model.proofs.counted_items.Weighing.{weigh-same, weigh-zero}
use Rattle.tree_model.specs.storm_values.declared.value.Value.{Value}
use Rattle.tree_model.specs.topology_plan.Topology.{Topology}
use Rattle.track_report.specs.declared.ending.RecordEnd.{RecordEnd}
use Rattle.track_runs.specs.Steps.{AddsCounts, acked_at, count_up, end_from, gave_up, merged, open_rows}
use Rattle.track_runs.specs.Tracked.{end_of}

-- what holds whatever the answer
pub on_any : {T E Q : Type 0} (r : Result T E) → Q → OnOk r Q
on_any (Ok x) holds = holds
on_any (Err e) holds = tt

-- ---- counts that are added one after another

capped_twice : (a b c : ℕ) → capped (capped (a + b) + c) ≡ capped (a + (b + c))
capped_twice a b c = omega arith

pub adds_both : (old mid new : List (List KeyCount)) (f g h : ℕ → List ℕ → ℕ) → ((state : ℕ) (key : List ℕ) → f state key + g state key ≡ h state key) → AddsCounts old mid f → AddsCounts mid new g → AddsCounts old new h
adds_both old mid new f g h sum first next = λ state key.
    next state key
    ∙ ap (λ (n : ℕ). capped (n + g state key)) (first state key)
    ∙ capped_twice (counted old state key) (f state key) (g state key)
    ∙ ap (λ (n : ℕ). capped (counted old state key + n)) (sum state key)

pub adds_same : (old new : List (List KeyCount)) (f g : ℕ → List ℕ → ℕ) → ((state : ℕ) (key : List ℕ) → f state key ≡ g state key) → AddsCounts old new f → AddsCounts old new g
adds_same old new f g same adds = λ state key. adds state key ∙ ap (λ (n : ℕ). capped (counted old state key + n)) (same state key)

pub adds_none : (tallies : List (List KeyCount)) (f : ℕ → List ℕ → ℕ) → AreFew tallies → ((state : ℕ) (key : List ℕ) → f state key ≡ 0) → AddsCounts tallies tallies f
adds_none tallies f few none = λ state key. kept (counted tallies state key) (f state key) (few state key) (none state key)
  where
    kept : (n m : ℕ) → n ≤ 2 ^ 64 - 1 → m ≡ 0 → n ≡ capped (n + m)
    kept n m small is = omega (arith, small, is)

module _ (t : Topology) (custom : Custom) where
  abbrev good : ℕ → List Value → Bool
  good attempt row = is_good t custom attempt row

  -- ---- the records that are left

  open-step : (b : Bool) (attempt : ℕ) (row : List Value) (rows : List (List Value)) → open_rows rows (map (good attempt) rows) ≡ filter (λ r. not (good attempt r)) rows
      → open_rows (row ∷ rows) (b ∷ map (good attempt) rows) ≡ (if not b then row ∷ filter (λ r. not (good attempt r)) rows else filter (λ r. not (good attempt r)) rows)
  open-step true attempt row rows rest = rest
  open-step false attempt row rows rest = ap (λ rs. row ∷ rs) rest

  open-filter : (attempt : ℕ) (rows : List (List Value)) → open_rows rows (map (good attempt) rows) ≡ filter (λ r. not (good attempt r)) rows
  open-filter attempt [] = refl
  open-filter attempt (row ∷ rows) = open-step (good attempt row) attempt row rows (open-filter attempt rows)

  -- ---- their ends

  pub ends_none : (before : ℕ) (rows : List (List Value)) → replicate (length rows) (gave_up before) ≡ map (end_from t custom before zero) rows
  ends_none before [] = refl
  ends_none before (row ∷ rows) = ap (λ ends. gave_up before ∷ ends) (ends_none before rows)

  merged-step : (b : Bool) (before more : ℕ) (row : List Value) (rows : List (List Value)) → merged (suc before) (map (good (suc before)) rows) (map (end_from t custom (suc before) more) (open_rows rows (map (good (suc before)) rows))) ≡ map (end_from t custom before (suc more)) rows
      → merged (suc before) (b ∷ map (good (suc before)) rows) (map (end_from t custom (suc before) more) (open_rows (row ∷ rows) (b ∷ map (good (suc before)) rows)))
      ≡ (if b then acked_at (suc before) else end_from t custom (suc before) more row) ∷ map (end_from t custom before (suc more)) rows
  merged-step true before more row rows rest = ap (λ ends. acked_at (suc before) ∷ ends) rest
  merged-step false before more row rows rest = ap (λ ends. end_from t custom (suc before) more row ∷ ends) rest

  pub merged_ends : (before more : ℕ) (rows : List (List Value)) → merged (suc before) (map (good (suc before)) rows) (map (end_from t custom (suc before) more) (open_rows rows (map (good (suc before)) rows))) ≡ map (end_from t custom before (suc more)) rows
  merged_ends before more [] = refl
  merged_ends before more (row ∷ rows) = merged-step (good (suc before) row) before more row rows (merged_ends before more rows)

  end-step : (b : Bool) (before tries : ℕ) (acked : Bool) (later : RecordEnd) → later ≡ record { attempts = suc before + tries; acked = acked }
      → (if b then acked_at (suc before) else later) ≡ record { attempts = before + (if b then 1 else suc tries); acked = b || acked }
  end-step true before tries acked later is =
      let next : suc before ≡ before + 1 = omega arith in
      ap (λ (n : ℕ). record { attempts = n; acked = true }) next
  end-step false before tries acked later is =
      let next : suc before + tries ≡ before + suc tries = omega arith in
      is ∙ ap (λ (n : ℕ). record { attempts = n; acked = acked }) next

  end_tried : (before more : ℕ) (row : List Value) → end_from t custom before more row ≡ record { attempts = before + tries_from t custom (suc before) more row; acked = acked_from t custom (suc before) more row }
  end_tried before zero row =
      let same : before ≡ before + 0 = omega arith in
      ap (λ (n : ℕ). record { attempts = n; acked = false }) same
  end_tried before (suc more) row =
      end-step (good (suc before) row) before (tries_from t custom (suc (suc before)) more row) (acked_from t custom (suc (suc before)) more row) (end_from t custom (suc before) more row) (end_tried (suc before) more row)

  first_tried : (most : ℕ) (row : List Value) → end_from t custom 0 most row ≡ end_of t custom most row
  first_tried most row =
      let same : 0 + tries_from t custom 1 most row ≡ tries_from t custom 1 most row = omega arith in
      end_tried 0 most row ∙ ap (λ (n : ℕ). record { attempts = n; acked = acked_from t custom 1 most row }) same

  pub ends_tried : (most : ℕ) (rows : List (List Value)) → map (end_from t custom 0 most) rows ≡ map (end_of t custom most) rows
  ends_tried most [] = refl
  ends_tried most (row ∷ rows) = ap₂ (λ (e : RecordEnd) es. e ∷ es) (first_tried most row) (ends_tried most rows)

  -- ---- what their tries reach

  count-step : (b : Bool) (state : ℕ) (key : List ℕ) (before more : ℕ) (row : List Value) → count_up t custom state key (suc before) more row ≡ count_from t custom state key (suc (suc before)) (tries_from t custom (suc (suc before)) more row) row
      → count_at t custom state key (suc before) row + (if b then 0 else count_up t custom state key (suc before) more row)
      ≡ count_from t custom state key (suc before) (if b then 1 else suc (tries_from t custom (suc (suc before)) more row)) row
  count-step true state key before more row later = refl
  count-step false state key before more row later = ap (λ (n : ℕ). count_at t custom state key (suc before) row + n) later

  count_tried : (state : ℕ) (key : List ℕ) (before more : ℕ) (row : List Value) → count_up t custom state key before more row ≡ count_from t custom state key (suc before) (tries_from t custom (suc before) more row) row
  count_tried state key before zero row = refl
  count_tried state key before (suc more) row =
      count-step (good (suc before) row) state key before more row (count_tried state key (suc before) more row)

  pub counts_tried : (state : ℕ) (key : List ℕ) (most : ℕ) (rows : List (List Value)) → weigh (count_up t custom state key 0 most) rows ≡ weigh (count_of t custom state key most) rows
  counts_tried state key most rows = weigh-same (count_up t custom state key 0 most) (count_of t custom state key most) (count_tried state key 0 most) rows

  pub counts_none : (state : ℕ) (key : List ℕ) (before : ℕ) (rows : List (List Value)) → weigh (count_up t custom state key before zero) rows ≡ 0
  counts_none state key before rows = weigh-zero (count_up t custom state key before zero) (λ row. refl) rows

  more-step : (b : Bool) (state : ℕ) (key : List ℕ) (before more : ℕ) (row : List Value) (rows : List (List Value))
      → weigh (count_at t custom state key (suc before)) rows + weigh (count_up t custom state key (suc before) more) (open_rows rows (map (good (suc before)) rows)) ≡ weigh (count_up t custom state key before (suc more)) rows
      → (count_at t custom state key (suc before) row + weigh (count_at t custom state key (suc before)) rows) + weigh (count_up t custom state key (suc before) more) (open_rows (row ∷ rows) (b ∷ map (good (suc before)) rows))
      ≡ (count_at t custom state key (suc before) row + (if b then 0 else count_up t custom state key (suc before) more row)) + weigh (count_up t custom state key before (suc more)) rows
  more-step true state key before more row rows rest = omega (arith, rest)
  more-step false state key before more row rows rest = omega (arith, rest)

  -- an attempt at records, and then the tries of those that were not acked
  pub counts_more : (state : ℕ) (key : List ℕ) (before more : ℕ) (rows : List (List Value))
      → weigh (count_at t custom state key (suc before)) rows + weigh (count_up t custom state key (suc before) more) (open_rows rows (map (good (suc before)) rows)) ≡ weigh (count_up t custom state key before (suc more)) rows
  counts_more state key before more [] = refl
  counts_more state key before more (row ∷ rows) =
      more-step (good (suc before) row) state key before more row rows (counts_more state key before more rows)

  -- ---- what is left is within limits

  pub open_within : (P : List Value → Type 0) (attempt : ℕ) (rows : List (List Value)) → All P rows → All P (open_rows rows (map (good attempt) rows))
  open_within P attempt rows all = rw (open-filter attempt rows) (All-filter (λ r. not (good attempt r)) P rows all)

  few-step : (b : Bool) (attempt : ℕ) (row : List Value) (rows : List (List Value)) → length (open_rows rows (map (good attempt) rows)) ≤ length rows → length (open_rows (row ∷ rows) (b ∷ map (good attempt) rows)) ≤ suc (length rows)
  few-step true attempt row rows rest = omega (arith, rest)
  few-step false attempt row rows rest = omega (arith, rest)

  pub open_few : (attempt : ℕ) (rows : List (List Value)) → length (open_rows rows (map (good attempt) rows)) ≤ length rows
  open_few attempt [] = omega arith
  open_few attempt (row ∷ rows) = few-step (good attempt row) attempt row rows (open_few attempt rows)

  -- ---- a whole call, from what its steps ensure

  pub left_few : (attempt : ℕ) (rows left : List (List Value)) (acked : List Bool) (n : ℕ) → acked ≡ map (good attempt) rows → left ≡ open_rows rows acked → length rows ≤ n → length left ≤ n
  left_few attempt rows left acked n is are few = rw (are, is) (let less = open_few attempt rows in omega (arith, less, few))

  pub left_within : (P : List Value → Type 0) (attempt : ℕ) (rows left : List (List Value)) (acked : List Bool) → acked ≡ map (good attempt) rows → left ≡ open_rows rows acked → All P rows → All P left
  left_within P attempt rows left acked is are all = rw (are, is) (open_within P attempt rows all)

  -- no attempt is left
  pub ends_last : (before more count : ℕ) (rows : List (List Value)) (ends : List RecordEnd) → more ≡ 0 → count ≡ length rows → ends ≡ replicate count (gave_up before) → ends ≡ map (end_from t custom before more) rows
  ends_last before more count rows ends none counts is = rw (none, is, counts) (ends_none before rows)

  pub counts_last : (before more : ℕ) (rows : List (List Value)) (tallies : List (List KeyCount)) → more ≡ 0 → AreFew tallies → AddsCounts tallies tallies (λ state key. weigh (count_up t custom state key before more) rows)
  counts_last before more rows tallies none few =
      adds_none tallies _ few (λ state key. ap (λ (n : ℕ). weigh (count_up t custom state key before n) rows) none ∙ counts_none state key before rows)

  -- no record is left
  pub counts_empty : (before more : ℕ) (rows : List (List Value)) (tallies : List (List KeyCount)) → rows ≡ [] → AreFew tallies → AddsCounts tallies tallies (λ state key. weigh (count_up t custom state key before more) rows)
  counts_empty before more rows tallies none few = adds_none tallies _ few (λ state key. ap (weigh (count_up t custom state key before more)) none)

  module _ (before attempt more less : ℕ) (rows left : List (List Value)) (acked : List Bool) (now : attempt ≡ suc before) (one : more ≡ suc less) (is : acked ≡ map (good attempt) rows) (are : left ≡ open_rows rows acked) where
    pub tried_ends : (later made : List RecordEnd) → later ≡ map (end_from t custom attempt less) left → made ≡ merged attempt acked later → made ≡ map (end_from t custom before more) rows
    tried_ends later made ends whole = rw (one, whole, ends, are, is, now) (merged_ends before less rows)

    sums : (state : ℕ) (key : List ℕ) → weigh (count_at t custom state key attempt) rows + weigh (count_up t custom state key attempt less) left ≡ weigh (count_up t custom state key before more) rows
    sums state key = rw (one, are, is, now) (counts_more state key before less rows)

    pub tried_counts : (old mid new : List (List KeyCount)) → AddsCounts old mid (λ state key. weigh (count_at t custom state key attempt) rows) → AddsCounts mid new (λ state key. weigh (count_up t custom state key attempt less) left)
        → AddsCounts old new (λ state key. weigh (count_up t custom state key before more) rows)
    tried_counts old mid new = adds_both old mid new (λ state key. weigh (count_at t custom state key attempt) rows) (λ state key. weigh (count_up t custom state key attempt less) left) (λ state key. weigh (count_up t custom state key before more) rows) sums
