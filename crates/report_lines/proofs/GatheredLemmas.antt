-- What may not follow cells.
use Rattle.std.proofs.Common.{◌≡◌, suc, Bool, true, false, IsTrue, ◌↔◌, List, [], ◌∷◌, ◌++◌, length, map, Option, Some, None, refl, sym, ap, ◌∙◌, arith}
use Rattle.std.proofs.lemmas.Bool.{true≢false}
use Rattle.report_grammar.specs.Report.{AttemptText, CellText, TailText}
use Rattle.report_grammar.specs.steps.Gathered.{Gathered, attempt_added, ended_without}
use Rattle.report_lines.specs.declared.report.CellLine.{CellLine}
use Rattle.report_lines.specs.Told.{cell_told}

abbrev pub made_of : List AttemptText → List CellText → Option TailText → Gathered
made_of attempts cells end = record { attempts = attempts; cells = cells; end = end }

-- cells of which a test says that they are not none
some_cells : (cells : List CellLine) (empty : Bool) → (IsTrue empty ↔ (cells ≡ [])) → empty ≡ false → cells ≡ [] → ⊥
some_cells cells empty tells not is = true≢false (sym (tells.1 is) ∙ not)

pub no_end : (g : Gathered) (t : TailText) (cells : List CellLine) (empty : Bool) → (IsTrue empty ↔ (cells ≡ [])) → empty ≡ false
    → ended_without g t (map cell_told cells) ≡ None
no_end g t [] empty tells not = absurd (some_cells [] empty tells not refl)
no_end g t (c ∷ cells) empty tells not = refl

pub no_attempt : (g : Gathered) (a : AttemptText) (cells : List CellLine) (empty : Bool) → (IsTrue empty ↔ (cells ≡ [])) → empty ≡ false
    → attempt_added g a (map cell_told cells) ≡ None
no_attempt g a [] empty tells not = absurd (some_cells [] empty tells not refl)
no_attempt g a (c ∷ cells) empty tells not = refl

some_then_none : (c : CellLine) (cells : List CellLine) → c ∷ cells ≡ [] → ⊥
some_then_none c cells same = let len : suc (length cells) ≡ 0 = ap length same in absurd (omega (arith, len))

-- an attempt before all cells
pub first_attempts : (g : Gathered) (a : AttemptText) (cells : List CellLine) (empty : Bool) → (IsTrue empty ↔ (cells ≡ [])) → empty ≡ true
    → attempt_added g a (map cell_told cells) ≡ Some (record { attempts = g.attempts ++ a ∷ []; cells = map cell_told cells; end = g.end })
first_attempts g a [] empty tells is = refl
first_attempts g a (c ∷ cells) empty tells is = absurd (some_then_none c cells (tells.0 is))
