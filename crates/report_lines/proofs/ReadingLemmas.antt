-- What the steps of reading come to.
use Rattle.std.proofs.Common.{◌≡◌, ℕ, suc, List, ◌∷◌, ◌++◌, length, Result, Ok, Err, Option, Some, None, option_map, true, false, IsTrue, ◌↔◌, refl, ap, sym, subst, ◌∙◌}
use Rattle.std.specs.Prelude.{IfErr, IfOk, MatchResult}
use Rattle.report_grammar.specs.Lines.{IsLine, LineText, Says, lines_in, line_text}
use Rattle.report_grammar.specs.Report.{ReportText, report_text}
use Rattle.report_grammar.specs.WellFormed.{IsWellFormed}
use Rattle.report_grammar.specs.steps.Gathered.{Gathered, MayNotFollow}
use Rattle.report_grammar.proofs.Gathering.{IsGathered, lines_so_far, never_refused, refused, reports_one, texts_so_far}
use Rattle.report_lines.specs.declared.fault.ReportFault.{ReportFault}
use Rattle.report_lines.specs.declared.fault.ReportFault.TheVariants as fault
use Rattle.report_lines.specs.declared.report.Report.{Report}
use Rattle.report_lines.specs.Faults.{IsFaultOf}
use Rattle.report_lines.specs.Told.{told}
use Rattle.report_lines.specs.steps.Gathered.{IsRefusal}

-- a refusal of a line is the fault of the text
pub fault_of : (g : Gathered) (bytes text : List ℕ) (later : List (List ℕ)) (number : ℕ) (f : ReportFault) → IsRefusal text g number f → IsGathered g
    → texts_so_far g ++ text ∷ later ≡ lines_in bytes → number ≡ suc (length (lines_so_far g)) → IsFaultOf bytes f
fault_of g bytes text later number (fault.Line at) refusal is all place =
    refused g (lines_in bytes) later text at is refusal.1 all (refusal.0 ∙ place)
fault_of g bytes text later number fault.Memory refusal is all place = tt

only_memory : (bytes : List ℕ) (f : ReportFault) (r : ReportText) → IsFaultOf bytes f → IsWellFormed r → bytes ≡ report_text r → f ≡ fault.Memory
only_memory bytes (fault.Line at) r refusal is same =
    absurd (never_refused r at is (subst (λ b. IsFaultOf b (fault.Line at)) same refusal))
only_memory bytes fault.Memory r refusal is same = refl

-- a text is read as the report whose text it is
pub read_as : (bytes : List ℕ) (found : Result Report ReportFault) → IfOk found (λ report. IsWellFormed (told report) × (bytes ≡ report_text (told report))) → IfErr found (IsFaultOf bytes)
    → (r : ReportText) → IsWellFormed r → bytes ≡ report_text r → MatchResult found (λ read. told read ≡ r) (λ f. f ≡ fault.Memory)
read_as bytes (Ok report) good bad r is same = reports_one (told report) r good.0 is (sym good.1 ∙ same)
read_as bytes (Err f) good bad r is same = only_memory bytes f r bad is same
