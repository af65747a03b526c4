-- What was read of a report so far, in the words of the definitions. No public clause cites these.
use Rattle.std.specs.Prelude.{◌≡◌, ℕ, List, map, option_map}
use Rattle.report_grammar.specs.steps.Gathered.{Gathered, MayNotFollow}
use Rattle.report_lines.specs.declared.fault.ReportFault.{ReportFault}
use Rattle.report_lines.specs.declared.fault.ReportFault.TheVariants as fault
use Rattle.report_lines.specs.declared.gathered.Gathered.{Gathered as Read}
use Rattle.report_lines.specs.Told.{attempt_told, cell_told, tail_told}

abbrev pub gathered_told : Read → Gathered
gathered_told g = record {
  attempts = map attempt_told g.attempts;
  cells = map cell_told g.cells;
  end = option_map tail_told g.tail;
}

-- why a text was not added
abbrev pub IsRefusal : List ℕ → Gathered → ℕ → ReportFault → Type 0
IsRefusal text old number (fault.Line at) = (at ≡ number) × MayNotFollow text old
IsRefusal text old number fault.Memory = Unit {0}
