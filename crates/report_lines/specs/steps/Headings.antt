-- The heading of an attempt's line, as it was read. No public clause cites these.
use Rattle.report_lines.specs.declared.lines.Heading.{Heading as Read}
use Rattle.report_grammar.specs.steps.Parsed.{Heading}

abbrev pub heading_told : Read → Heading
heading_told h = record {
  root = h.root;
  spans = h.spans;
  start = h.start;
  finish = h.finish;
}
