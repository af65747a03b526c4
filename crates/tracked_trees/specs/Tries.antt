-- How often a record is tried, and how often a state's key is reached in all tries. This project's
-- own.
use Rattle.std.specs.Prelude.{ℕ, zero, suc, ◌+◌, ◌-◌, ◌^◌, ◌==◌, ◌&&◌, ◌||◌, min, Bool, false, if◌then◌else◌, List, [], ◌∷◌, filter, Option, None, Some}
use Rattle.std.specs.Str.{bytes_eq}
use Rattle.tree_model.specs.bolt_ops.RowOp.{Custom}
use Rattle.tree_model.specs.counted_items.Weights.{weigh}
use Rattle.tree_model.specs.storm_values.declared.value.Value.{Value}
use Rattle.tree_model.specs.topology_plan.Topology.{Topology}
use Rattle.tree_model.specs.declared.write.Write.{Write}
use Rattle.tree_model.specs.Trees.{Node, write_of, writes}
use Rattle.tracked_trees.specs.Reached.{reached, is_good}

module _ (t : Topology) (custom : Custom) where
  -- ---- tries

  -- how many attempts from this one on are made, among so many: up to the first good one, and all
  -- where none is good
  abbrev pub tries_from : ℕ → ℕ → List Value → ℕ
  tries_from attempt zero row = 0
  tries_from attempt (suc more) row =
      if is_good t custom attempt row then 1 else suc (tries_from (suc attempt) more row)

  -- how often a record is tried: up to its first good attempt, and `most` times where none of
  -- these is good
  abbrev pub tries_of : ℕ → List Value → ℕ
  tries_of most row = tries_from 1 most row

  -- whether one of so many attempts from this one on is good
  abbrev pub acked_from : ℕ → ℕ → List Value → Bool
  acked_from attempt zero row = false
  acked_from attempt (suc more) row =
      is_good t custom attempt row || acked_from (suc attempt) more row

  -- a record is acked where one of its first `most` attempts is good, which is then its last
  abbrev pub is_acked : ℕ → List Value → Bool
  is_acked most row = acked_from 1 most row

-- ---- tallies

-- 1 where a write is of this state and has this key
abbrev pub writes_to : ℕ → List ℕ → Write → ℕ
writes_to state key write = if (write.state == state) && bytes_eq write.key key then 1 else 0

abbrev pub tallied_by : ℕ → List ℕ → Option Write → ℕ
tallied_by state key None = 0
tallied_by state key (Some write) = writes_to state key write

-- 1 where a node is one of this state and its row has this key
abbrev pub tallied : Topology → ℕ → List ℕ → Node → ℕ
tallied t state key node = tallied_by state key (write_of t node)

module _ (t : Topology) (custom : Custom) (state : ℕ) (key : List ℕ) where
  -- how many nodes of the state and key are reached at an attempt at a record
  abbrev pub count_at : ℕ → List Value → ℕ
  count_at attempt row = weigh (tallied t state key) (reached t custom attempt row)

  -- the same over so many attempts from this one on
  abbrev pub count_from : ℕ → ℕ → List Value → ℕ
  count_from attempt zero row = 0
  count_from attempt (suc more) row = count_at attempt row + count_from (suc attempt) more row

  -- over a record's tries
  abbrev pub count_of : ℕ → List Value → ℕ
  count_of most row = count_from 1 (tries_of t custom most row) row

  -- over all records and their tries, ending at 2^64 - 1
  abbrev pub tally : ℕ → List (List Value) → ℕ
  tally most rows = min (weigh (count_of most) rows) (2 ^ 64 - 1)

  -- how many writes of the state and key the trees of the acked records have
  abbrev pub acked_writes : ℕ → List (List Value) → ℕ
  acked_writes most rows =
      weigh (λ (row : List Value). weigh (writes_to state key) (writes t custom (row ∷ [])))
      (filter (is_acked t custom most) rows)
