-- What a piece of the records has left so far.
use Rattle.std.specs.Prelude.{◌≡◌, ◌≢◌, ◌<◌, ◌-◌, ◌^◌, min, ℕ, ℤ, List, [], length, map, All, Option, Some, None, IfSome, option_and_then, slice_get, slice_index_or}
use Rattle.std.specs.Int.{w64}
use Rattle.std.specs.Int.RustNames.{FitsSigned}
use Rattle.indexmap.specs.IndexMap.{IndexMap}
use Rattle.tree_model.specs.bolt_ops.RowOp.{Custom}
use Rattle.tree_model.specs.topology_plan.declared.parts.Body.{Body}
use Rattle.tree_model.specs.topology_plan.declared.parts.Body.TheVariants.{Bolt, State}
use Rattle.tree_model.specs.topology_plan.declared.parts.Component.{Component}
use Rattle.tree_model.specs.topology_plan.declared.parts.Fold.{Fold}
use Rattle.tree_model.specs.topology_plan.Topology.{Topology}
use Rattle.tree_model.specs.declared.write.Pair.{Pair}
use Rattle.tree_model.specs.declared.write.Write.{Write}
use Rattle.tree_model.specs.Inside.{entries_of}
use Rattle.tree_model.specs.Tables.{AreRunningTables, value_at}
use Rattle.fold_tables.specs.declared.piece.Piece.{Piece}
use Rattle.fold_tables.specs.Merging.{AreMergedIn, joined}

-- the pairs of each component
abbrev pub pairs_by : {S : Type 0} → List (IndexMap (List ℕ) ℤ S) → List (List Pair)
pairs_by states = map entries_of states

-- the fold of a component, where it is a state
abbrev pub fold_by : Body → Option Fold
fold_by (Bolt op) = None
fold_by (State spec) = Some spec.fold

abbrev pub fold_at : Topology → ℕ → Option Fold
fold_at t number =
    option_and_then (λ (component : Component). fold_by component.body)
    (slice_get t.components number)

-- each state's pairs are the merge of its earlier and its later ones
pub record AreMergedStates (t : Topology) (custom : Custom)
    (earlier later pairs : List (List Pair)) : Type 0 where
  pub count : length pairs ≡ length earlier
  pub states : (number : ℕ) → IfSome (fold_at t number)
      (λ by. AreMergedIn (joined custom by) (slice_index_or earlier number [])
      (slice_index_or later number []) (slice_index_or pairs number []))

-- What a merge of one component leaves: a state has its pairs merged, a bolt and all other
-- components stay.
pub record MergesAt (custom : Custom) (by : Option Fold) (place : ℕ)
    (old later new left : List (List Pair)) : Type 0 where
  pub merged : IfSome by
      (λ fold. AreMergedIn (joined custom fold) (slice_index_or old place [])
      (slice_index_or later place []) (slice_index_or new place []))
  pub others : (n : ℕ) → n ≢ place → slice_index_or new n [] ≡ slice_index_or old n []
  pub others_later : (n : ℕ) → n ≢ place → slice_index_or left n [] ≡ slice_index_or later n []

-- What some writes have left: how many there were, up to 2^64 - 1, and where there were few, each
-- state's pairs. Each amount is one of 64 bits.
pub record IsPiece (t : Topology) (custom : Custom) (made : List Write)
    (piece : Piece) : Type 0 where
  pub counted : piece.writes ≡ min (length made) (2 ^ 64 - 1)
  pub fit : All (λ (write : Write). FitsSigned w64 write.amount) made
  pub count : length piece.states.items ≡ length t.components
  pub running : piece.writes < 2 ^ 63 → AreRunningTables t custom made (pairs_by piece.states.items)
