-- What was read of a report so far. No public clause cites these.
use Rattle.std.specs.Prelude.{◌≡◌, ℕ, List, [], ◌∷◌, ◌++◌, map, Bool, true, false, Option, Some, None, option_map}
use Rattle.report_grammar.specs.Lines.{LineText, Says, attempt, cell, tail}
use Rattle.report_grammar.specs.Report.{AttemptText, CellText, TailText, ok, exhausted, unfinished}

pub record Gathered : Type 0 where
  pub attempts : List AttemptText
  pub cells : List CellText
  pub end : Option TailText

-- before the first line
abbrev pub nothing : Gathered
nothing = record { attempts = []; cells = []; end = None }

-- an attempt's line comes before all cells
abbrev pub attempt_added : Gathered → AttemptText → List CellText → Option Gathered
attempt_added g a [] =
    Some (record { attempts = g.attempts ++ a ∷ []; cells = []; end = g.end })
attempt_added g a (c ∷ cs) = None

abbrev pub cell_added : Gathered → CellText → Gathered
cell_added g c = record { attempts = g.attempts; cells = g.cells ++ c ∷ []; end = g.end }

-- the last line, before which cells stand only where all was committed
abbrev pub ended : Gathered → TailText → Gathered
ended g t = record { attempts = g.attempts; cells = g.cells; end = Some t }

abbrev pub ended_without : Gathered → TailText → List CellText → Option Gathered
ended_without g t [] = Some (ended g t)
ended_without g t (c ∷ cs) = None

abbrev pub tail_added : Gathered → TailText → Option Gathered
tail_added g (ok records batches) = Some (ended g (ok records batches))
tail_added g (exhausted txid) = ended_without g (exhausted txid) g.cells
tail_added g (unfinished committed_count) =
    ended_without g (unfinished committed_count) g.cells

abbrev pub added_to : Gathered → LineText → Option Gathered
added_to g (attempt a) = attempt_added g a g.cells
added_to g (cell c) = Some (cell_added g c)
added_to g (tail t) = tail_added g t

-- no line follows the last one
abbrev pub unless_ended : Gathered → Option TailText → LineText → Option Gathered
unless_ended g None line = added_to g line
unless_ended g (Some t) line = None

-- what was read with one line more, if the line may follow
unfoldable pub with_line : Gathered → LineText → Option Gathered
with_line g line = unless_ended g g.end line

-- a line was added, or it may not follow
abbrev pub IsAdded : Bool → Option Gathered → Gathered → Type 0
IsAdded true found new = found ≡ Some new
IsAdded false found new = found ≡ None

abbrev pub Adds : Gathered → LineText → Bool → Gathered → Type 0
Adds old line added new = IsAdded added (with_line old line) new

-- a text is a line that was added to what was read
pub record Follows (text : List ℕ) (old new : Gathered) : Type 0 where
  pub line : LineText
  pub says : Says text line
  pub added : with_line old line ≡ Some new

-- a text is no line that may follow what was read
abbrev pub MayNotFollow : List ℕ → Gathered → Type 0
MayNotFollow text old = (line : LineText) → Says text line → with_line old line ≡ None
