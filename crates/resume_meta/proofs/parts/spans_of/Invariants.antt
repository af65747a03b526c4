use Rattle.std.proofs.Common.{◌≡◌, ◌+◌, ℕ, List, Option, None, Some, length, option_map}
use Rattle.std.specs.List.{AllByRecursion}
use Rattle.record_spans.specs.declared.span.Span.{Span}
use Rattle.report_grammar.specs.Report.{spans_text}
use Rattle.report_grammar.specs.WellFormed.{AreSpans, IsSpan}
use Rattle.resume_meta.proofs.SpansRead.{AreLeft}
use Rattle.resume_meta.proofs.parts.spans_of.Given as goal

abbrev pub invariant-loop-rest : goal.invariant-loop-rest
invariant-loop-rest l = record {
  left : (spans : List Span) → AreSpans spans → l.fn.text ≡ spans_text spans → AreLeft spans l.spans (option_map (λ s. s.now) l.rest);
  fit : AllByRecursion IsSpan l.spans;
}

abbrev size : Option (List ℕ) → ℕ
size None = 0
size (Some text) = length text + 1

abbrev pub decreases-loop-rest : goal.decreases-loop-rest
decreases-loop-rest l = size (option_map (λ s. s.now) l.rest)
