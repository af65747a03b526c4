-- A tally counts at least the writes in the trees of the acked records.
use Rattle.std.proofs.Common.{◌≡◌, ℕ, zero, suc, ◌+◌, ◌≤◌, ◌⊎◌, inl, inr, min, Bool, true, false, cond, ◌||◌, true≢false, List, [], ◌∷◌, filter, Option, Some, None, refl, sym, ap, ◌∙◌, arith}
use Rattle.std.specs.List.{filter_map, cons_option}
use Rattle.tree_model.specs.bolt_ops.RowOp.{Custom}
use Rattle.tree_model.specs.counted_items.Weights.{weigh}
use Rattle.tree_model.specs.storm_values.declared.value.Value.{Value}
use Rattle.tree_model.specs.topology_plan.Topology.{Topology}
use Rattle.tree_model.specs.declared.write.Write.{Write}
use Rattle.tree_model.specs.Trees.{Node, nodes_of, write_of, writes}
use Rattle.tracked_trees.specs.Reached.{reached, is_good}
use Rattle.tracked_trees.specs.Tries.{tries_from, acked_from, is_acked, writes_to, tallied_by, tallied, count_at, count_from, count_of, acked_writes}
use Rattle.tracked_trees.proofs.Good.{whole}

weigh-filter_map : {X Y : Type 0} (w : Y → ℕ) (h : X → Option Y) (v : X → ℕ) → ((x : X) (rest : List Y) → weigh w (cons_option (h x) rest) ≡ v x + weigh w rest) → (xs : List X) → weigh w (filter_map h xs) ≡ weigh v xs
weigh-filter_map w h v each [] = refl
weigh-filter_map w h v each (x ∷ xs) = let here = each x (filter_map h xs) in let later = weigh-filter_map w h v each xs in omega (arith, here, later)

either : (a b : ℕ) → (a ≤ b) ⊎ (b ≤ a)
either zero b = inl (omega arith)
either (suc a) zero = inr (omega arith)
either (suc a) (suc b) = by (either a b)
  where
    by : (a ≤ b) ⊎ (b ≤ a) → (suc a ≤ suc b) ⊎ (suc b ≤ suc a)
    by (inl le) = inl (omega arith)
    by (inr le) = inr (omega arith)

pub ended : (most count few : ℕ) → few ≤ count → (min count most ≡ most) ⊎ (few ≤ min count most)
ended most count few le = by (either most count)
  where
    by : (most ≤ count) ⊎ (count ≤ most) → (min count most ≡ most) ⊎ (few ≤ min count most)
    by (inl over) = inl (omega arith)
    by (inr below) = inr (omega arith)

module _ (t : Topology) (custom : Custom) (state : ℕ) (key : List ℕ) where
  tallied_writes : (nodes : List Node) → weigh (writes_to state key) (filter_map (write_of t) nodes) ≡ weigh (tallied t state key) nodes
  tallied_writes nodes = weigh-filter_map (writes_to state key) (write_of t) (tallied t state key) (λ node rest. one (write_of t node) rest) nodes
    where
      one : (o : Option Write) (rest : List Write) → weigh (writes_to state key) (cons_option o rest) ≡ tallied_by state key o + weigh (writes_to state key) rest
      one None rest = omega arith
      one (Some write) rest = refl

  good_counts : (attempt : ℕ) (row : List Value) → is_good t custom attempt row ≡ true → count_at t custom state key attempt row ≡ weigh (writes_to state key) (writes t custom (row ∷ []))
  good_counts attempt row good = ap (weigh (tallied t state key)) (whole t custom attempt row good) ∙ sym (tallied_writes (nodes_of t custom (row ∷ [])))

  counts_from : (more attempt : ℕ) (row : List Value) → acked_from t custom attempt more row ≡ true
      → weigh (writes_to state key) (writes t custom (row ∷ [])) ≤ count_from t custom state key attempt (tries_from t custom attempt more row) row
  counts_from zero attempt row acked = absurd (true≢false (sym acked))
  counts_from (suc more) attempt row acked = by (is_good t custom attempt row) refl acked (counts_from more (suc attempt) row)
    where
      by : (b : Bool) → is_good t custom attempt row ≡ b → (b || acked_from t custom (suc attempt) more row) ≡ true
          → (acked_from t custom (suc attempt) more row ≡ true → weigh (writes_to state key) (writes t custom (row ∷ [])) ≤ count_from t custom state key (suc attempt) (tries_from t custom (suc attempt) more row) row)
          → weigh (writes_to state key) (writes t custom (row ∷ [])) ≤ count_from t custom state key attempt (cond b 1 (suc (tries_from t custom (suc attempt) more row))) row
      by true good acked later = let here = good_counts attempt row good in omega (arith, here)
      by false good acked later = let rest = later acked in omega (arith, rest)

  pub counts : (most : ℕ) (rows : List (List Value)) → acked_writes t custom state key most rows ≤ weigh (count_of t custom state key most) rows
  counts most [] = omega arith
  counts most (row ∷ rows) = by (is_acked t custom most row) refl (counts most rows)
    where
      w : List Value → ℕ
      w r = weigh (writes_to state key) (writes t custom (r ∷ []))

      by : (b : Bool) → is_acked t custom most row ≡ b → weigh w (filter (is_acked t custom most) rows) ≤ weigh (count_of t custom state key most) rows
          → weigh w (cond b (row ∷ filter (is_acked t custom most) rows) (filter (is_acked t custom most) rows)) ≤ count_of t custom state key most row + weigh (count_of t custom state key most) rows
      by true acked later = let here = counts_from most 1 row acked in omega (arith, here, later)
      by false acked later = omega (arith, later)
