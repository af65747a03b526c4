-- The writes of a batch by part, and of each part by key. This project's own.
use Rattle.std.specs.Prelude.{◌≡◌, ℕ, List}
use Rattle.std.specs.List.{AllZip}
use Rattle.tree_model.specs.declared.write.Write.{Write}
use Rattle.cell_format.specs.Commits.{amounts_at}
use Rattle.state_cells.specs.Groups.{amounts_of}
use Rattle.state_cells.specs.declared.group.GroupedWrites.{GroupedWrites}
use Rattle.state_parts.specs.declared.parts.StatePart.{StatePart}
use Rattle.state_parts.specs.Commits.{own_writes}

-- these writes were brought together
abbrev pub IsGrouped : List Write → GroupedWrites → Type 0
IsGrouped writes grouped = (key : List ℕ) → amounts_of grouped key ≡ amounts_at writes key

-- each part has its writes of the batch
abbrev pub AreDealt : {S : Type 0} → List Write → List (StatePart S) → List GroupedWrites → Type 0
AreDealt writes parts dealt = AllZip (λ at grouped. IsGrouped (own_writes writes at) grouped) parts dealt
