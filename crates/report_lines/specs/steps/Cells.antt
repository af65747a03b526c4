-- The parts of a cell's line, as they were read. No public clause cites these.
use Rattle.report_lines.specs.declared.cells.CellParts.{CellParts}
use Rattle.report_grammar.specs.steps.Parsed.{Cell}

abbrev pub parts_told : CellParts → Cell
parts_told parts = record {
  state = parts.state.now;
  key = parts.key.now;
  digits = parts.digits.now;
}
