-- The lines of a report and of a text, and which line of a text is refused. This project's own.
use Rattle.std.specs.Prelude.{◌≡◌, ℕ, suc, ◌==◌, List, [], ◌∷◌, ◌++◌, length, map, if◌then◌else◌}
use Rattle.storm_values.specs.Lines.{before_first}
use Rattle.report_grammar.specs.Report.{AttemptText, attempt_text, CellText, cell_text, TailText, tail_text, ReportText}
use Rattle.report_grammar.specs.WellFormed.{IsAttempt, IsCell, IsTail, IsWellFormed}

pub data LineText : Type 0 where
  attempt : (line : AttemptText) → LineText
  cell : (line : CellText) → LineText
  tail : (line : TailText) → LineText

-- with its byte 10
abbrev pub line_text : LineText → List ℕ
line_text (attempt line) = attempt_text line
line_text (cell line) = cell_text line
line_text (tail line) = tail_text line

abbrev pub IsLine : LineText → Type 0
IsLine (attempt line) = IsAttempt line
IsLine (cell line) = IsCell line
IsLine (tail line) = IsTail line

-- a text is the line
pub record Says (text : List ℕ) (line : LineText) : Type 0 where
  pub is_line : IsLine line
  pub is_text : text ≡ line_text line

-- the lines of a report, in order
abbrev pub lines_of : ReportText → List LineText
lines_of report =
    map attempt report.attempts ++ (map cell report.cells ++ tail report.tail ∷ [])

-- the lines of a text, each with the byte 10 that ends it; what follows the last byte 10 is a
-- line too, and has none
abbrev pub lines_in : List ℕ → List (List ℕ)
lines_in [] = []
lines_in (byte ∷ bytes) =
    if byte == 10 then (byte ∷ []) ∷ lines_in bytes else before_first byte (lines_in bytes)

-- some lines are the first ones of a report
pub record Begin (lines : List (List ℕ)) : Type 0 where
  pub report : ReportText
  pub is_well : IsWellFormed report
  pub others : List (List ℕ)
  pub are : lines ++ others ≡ map line_text (lines_of report)

-- some lines are no whole report
abbrev pub AreNone : List (List ℕ) → Type 0
AreNone lines =
    (report : ReportText) → IsWellFormed report → lines ≡ map line_text (lines_of report) → ⊥

-- The first ones go on with the line that follows them, which no report has there. Where no line
-- follows, one is missing.
abbrev pub Ends : List (List ℕ) → List (List ℕ) → Type 0
Ends first [] = AreNone first
Ends first (line ∷ others) = Begin (first ++ line ∷ []) → ⊥

-- Of these lines the one with this number, counted from 1, is the first that is not of a report:
-- those before it are the first ones of a report, and with it they are not.
pub record IsRefusedAt (lines : List (List ℕ)) (number : ℕ) : Type 0 where
  pub first : List (List ℕ)
  pub others : List (List ℕ)
  pub are : lines ≡ first ++ others
  pub begin : Begin first
  pub ends : Ends first others
  pub place : number ≡ suc (length first)
