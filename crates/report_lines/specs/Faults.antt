-- What is printed of a text that is no report.
use Rattle.std.specs.Prelude.{ℕ, List, ◌++◌, codes, decimal}
use Rattle.report_grammar.specs.Lines.{IsRefusedAt, lines_in}
use Rattle.report_lines.specs.declared.fault.ReportFault.{ReportFault}
use Rattle.report_lines.specs.declared.fault.ReportFault.TheVariants as fault

abbrev pub report_fault_text : ReportFault → List ℕ
report_fault_text (fault.Line number) =
    codes "line " ++ decimal number ++ codes ": not a line of a report"
report_fault_text fault.Memory = codes "out of memory"

-- why a text is no report; memory may run out at any
abbrev pub IsFaultOf : List ℕ → ReportFault → Type 0
IsFaultOf bytes (fault.Line number) = IsRefusedAt (lines_in bytes) number
IsFaultOf bytes fault.Memory = Unit {0}
