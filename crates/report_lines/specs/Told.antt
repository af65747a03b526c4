-- What a report says, in the words of the definitions.
use Rattle.std.specs.Prelude.{map}
use Rattle.tuple_tickets.specs.declared.edge.Edge.{Edge}
use Rattle.report_lines.specs.declared.report.{AttemptLine.AttemptLine, CellLine.CellLine, EndLine.EndLine, Line.Line, Report.Report, Tail.Tail}
use Rattle.report_lines.specs.declared.report.EndLine.TheVariants as ends
use Rattle.report_lines.specs.declared.report.Line.TheVariants as line
use Rattle.report_lines.specs.declared.report.Tail.TheVariants as tails
use Rattle.report_grammar.specs.Lines.{LineText, attempt, cell, tail}
use Rattle.report_grammar.specs.Report.{EdgeText, EndText, committed, failed, timed_out, coincided, commit_failed, dropped, AttemptText, CellText, TailText, ok, exhausted, unfinished, ReportText}

abbrev pub edge_told : Edge → EdgeText
edge_told edge = record { path = edge.path; id = edge.id }

abbrev pub end_told : EndLine → EndText
end_told ends.Committed = committed
end_told (ends.Failed path) = failed path
end_told ends.TimedOut = timed_out
end_told (ends.Coincided edges) = coincided (map edge_told edges)
end_told (ends.CommitFailed state part) = commit_failed state part
end_told (ends.Dropped by) = dropped by

abbrev pub attempt_told : AttemptLine → AttemptText
attempt_told a = record {
  txid = a.root.txid;
  attempt = a.root.attempt;
  spans = a.spans;
  start = a.start;
  finish = a.finish;
  ending = end_told a.end;
}

abbrev pub cell_told : CellLine → CellText
cell_told c = record { state = c.state; key = c.key; value = c.value }

abbrev pub tail_told : Tail → TailText
tail_told (tails.Ok records batches) = ok records batches
tail_told (tails.Exhausted txid) = exhausted txid
tail_told (tails.Unfinished committed_count) = unfinished committed_count

abbrev pub line_told : Line → LineText
line_told (line.Attempt a) = attempt (attempt_told a)
line_told (line.Cell c) = cell (cell_told c)
line_told (line.Tail t) = tail (tail_told t)

abbrev pub told : Report → ReportText
told report = record {
  attempts = map attempt_told report.lines;
  cells = map cell_told report.cells;
  tail = tail_told report.tail;
}
