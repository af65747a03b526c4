-- A part, seen by contracts.
use Rattle.tree_model.specs.topology_plan.declared.parts.Fold.{Fold}
use Rattle.tree_model.specs.topology_plan.declared.parts.Kind.{Kind}

-- the store, and how its cells are kept and folded
pub record PartState (C : Type 0) : Type 0 where
  pub store : C
  pub kind : Kind
  pub by : Fold

abbrev pub part_of : {C : Type 0} → C → Kind → Fold → PartState C
part_of store kind by = record { store = store; kind = kind; by = by }
