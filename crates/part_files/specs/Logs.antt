-- What a log holds after a piece was appended, and what a store over it tells.
use Rattle.std.specs.Prelude.{ℕ, ◌≡◌, ◌≤◌, List, ◌++◌, length, take}
use Rattle.storm_stores.specs.CellMaps.{CellMap, InKeyOrder}
use Rattle.part_files.specs.PartFiles.{map_of}

-- what was held, and behind it the first bytes of the piece
pub record HoldsFirst (holds : List ℕ → Type 0) (held piece : List ℕ) : Type 0 where
  pub count : ℕ
  pub within : count ≤ length piece
  pub now : holds (held ++ take count piece)

-- the cells are those of what the log holds
pub record TellsMapOf (holds : List ℕ → Type 0) (cells : CellMap) : Type 0 where
  pub bytes : List ℕ
  pub held : holds bytes
  pub is : cells ≡ map_of bytes
  pub ordered : InKeyOrder cells
