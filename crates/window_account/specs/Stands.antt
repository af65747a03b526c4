-- Where a walk through the topology stands. This project's own.
use Rattle.std.specs.Prelude.{◌≡◌, ◌≤◌, ◌<◌, ℕ, suc, ◌+◌, List, [], ◌∷◌, ◌++◌, map, fold, All, length, replicate, slice_get}
use Rattle.std.specs.List.{AllByRecursion, flat_map}
use Rattle.std.specs.Option.{option_to_list}
use Rattle.shared_ledger.specs.declared.rule.Call.{Call}
use Rattle.state_tallies.specs.Tallies.{capped}
use Rattle.tree_model.specs.bolt_ops.RowOp.{Custom}
use Rattle.tree_model.specs.counted_items.Weights.{weigh}
use Rattle.tree_model.specs.storm_values.declared.value.Root.{Root}
use Rattle.tree_model.specs.storm_values.declared.value.Value.{Value}
use Rattle.tree_model.specs.topology_plan.declared.parts.Origin.TheVariants as origin
use Rattle.tree_model.specs.topology_plan.Topology.{Topology}
use Rattle.tree_model.specs.declared.messages.AckMsg.{AckMsg}
use Rattle.tree_model.specs.declared.messages.Tuple.{Tuple}
use Rattle.tree_model.specs.Lists.{root_of}
use Rattle.tree_model.specs.Trees.{kids}
use Rattle.tracked_trees.specs.Reached.{reached_from}
use Rattle.tracked_trees.specs.Tries.{tallied}
use Rattle.tuple_account.specs.Accounts.{Account, IsAccount, is_begun, issued_notes}
use Rattle.tuple_account.specs.Issued.{Begun, Run, first_tuples, init_of, node_of}
use Rattle.window_account.specs.Noted.{root_at, count_in_window}
use Rattle.window_account.specs.Calls.{IsAmong, IsFit, call_of, noted, number_of}

-- the rows of a root: the record at its place
abbrev pub rows_of : List (List Value) → Root → List (List Value)
rows_of rows root = option_to_list (slice_get rows (number_of root))

-- these roots were begun for rows, from the place i on
abbrev pub AreBegun : Topology → ℕ → ℕ → List (List Value) → List Begun → Type 0
AreBegun t attempt i [] [] = Unit {0}
AreBegun t attempt i [] (b ∷ begun) = ⊥
AreBegun t attempt i (row ∷ rows) [] = ⊥
AreBegun t attempt i (row ∷ rows) (b ∷ begun) =
    (b.root ≡ root_at attempt i) × (b.rows ≡ row ∷ [])
    × (length b.ids ≡ length (kids t origin.Spout (row ∷ [])))
    × AreBegun t attempt (suc i) rows begun

-- rows were begun, and nothing was executed
pub record Opens (t : Topology) (attempt count : ℕ) (rows : List (List Value))
    (waiting : List Tuple) (lists : List (List AckMsg)) (calls : List Call) : Type 0 where
  pub begun : List Begun
  pub are_begun : AreBegun t attempt 0 rows begun
  pub waits : waiting ≡ flat_map (first_tuples t) begun
  pub fit : AllByRecursion (IsFit t) waiting
  pub notes : lists ≡ fold noted (replicate count []) (map (init_of t) begun)
  pub called : calls ≡ map call_of (map (init_of t) begun)

-- the account of what was begun and executed, and of what waits
abbrev pub account_of : List Begun → List Run → List Tuple → Account
account_of begun runs waiting =
    record { begun = begun; runs = runs; waiting = λ f. weigh f waiting }

-- Tuples at this depth wait to be executed, and so many depths are left: all that led here is an
-- account, each message was noted and called, and each executed tuple of a state was counted.
pub record Stands (t : Topology) (custom : Custom) (attempt depth levels : ℕ)
    (rows : List (List Value)) (waiting : List Tuple) (lists : List (List AckMsg))
    (calls : List Call) (counts : ℕ → List ℕ → ℕ) : Type 0 where
  pub begun : List Begun
  pub runs : List Run
  pub account : IsAccount t custom (rows_of rows) (account_of begun runs waiting)
  pub all_begun : (i : ℕ) → i < length rows → 1 ≤ weigh (is_begun (root_at attempt i)) begun
  pub at_depth : AllByRecursion (λ (tuple : Tuple). length tuple.edge.path ≡ depth) waiting
  pub among : AllByRecursion (λ (tuple : Tuple). IsAmong (length rows) attempt tuple.root) waiting
  pub fit : AllByRecursion (IsFit t) waiting
  pub told_among : AllByRecursion (λ (m : AckMsg). IsAmong (length rows) attempt (root_of m))
      (issued_notes t custom (account_of begun runs waiting))
  pub notes : lists ≡ fold noted (replicate (length rows) [])
      (issued_notes t custom (account_of begun runs waiting))
  pub called : calls ≡ map call_of (issued_notes t custom (account_of begun runs waiting))
  pub counted : (state : ℕ) (key : List ℕ) → (done : ℕ)
      × (capped (counts state key) ≡ capped done)
      × (done + weigh (tallied t state key)
      (flat_map (reached_from levels t custom attempt) (map node_of waiting))
      ≡ count_in_window t custom attempt rows state key)
