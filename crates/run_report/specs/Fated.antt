-- What a report says of fates.
use Rattle.std.specs.Prelude.{◌≡◌, ℕ, List, [], map, Option, None, Some, slice_get}
use Rattle.std.specs.List.{AllZip}
use Rattle.tree_model.specs.topology_plan.declared.parts.Component.{Component}
use Rattle.tree_model.specs.topology_plan.Topology.{Topology}
use Rattle.tree_model.specs.tuple_tickets.declared.edge.Edge.{Edge}
use Rattle.tree_model.specs.declared.messages.AckMsg.{AckMsg}
use Rattle.tree_model.specs.declared.write.Table.{Table}
use Rattle.tree_model.specs.Lists.{occurrences}
use Rattle.acker_core.specs.Edges.{AreLeft}
use Rattle.attempt_fates.specs.declared.fates.Attempt.{Attempt}
use Rattle.attempt_fates.specs.declared.fates.End.{End}
use Rattle.attempt_fates.specs.declared.fates.End.TheVariants as ends
use Rattle.report_lines.specs.declared.report.Tail.{Tail}
use Rattle.report_lines.specs.Told.{edge_told, tail_told}
use Rattle.run_report.specs.Cells.{cells_of}
use Rattle.report_grammar.specs.Report.{EdgeText, EndText, committed, failed, timed_out, coincided, commit_failed, dropped, AttemptText, report_text}

abbrev pub name_of : Option Component → List ℕ
name_of None = []
name_of (Some component) = component.name

-- the name of the component of a number, empty where there is none
abbrev pub name_at : Topology → ℕ → List ℕ
name_at plan component = name_of (slice_get plan.components component)

-- the edges that a list leaves open, in order, as a report tells them
pub record AreOpenOf (list : List AckMsg) (told : List EdgeText) : Type 0 where
  pub edges : List Edge
  pub are_left : AreLeft (occurrences list) edges
  pub are_told : told ≡ map edge_told edges

-- how an end is told
abbrev pub IsEndOf : Topology → End → EndText → Type 0
IsEndOf plan (ends.Committed list) told = told ≡ committed
IsEndOf plan (ends.Failed path) told = told ≡ failed path
IsEndOf plan ends.TimedOut told = told ≡ timed_out
IsEndOf plan (ends.Coincided list) told =
    (edges : List EdgeText) × AreOpenOf list edges × (told ≡ coincided edges)
IsEndOf plan (ends.CommitFailed component part before after) told =
    told ≡ commit_failed (name_at plan component) part
IsEndOf plan (ends.Dropped by) told = told ≡ dropped by

-- the line of an attempt whose end is told so
abbrev pub line_with : Attempt → EndText → AttemptText
line_with a told = record {
  txid = a.root.txid;
  attempt = a.root.attempt;
  spans = a.spans;
  start = a.start;
  finish = a.finish;
  ending = told;
}

-- the line of an attempt of a plan
pub record IsLineOf (plan : Topology) (a : Attempt) (line : AttemptText) : Type 0 where
  pub told : EndText
  pub is_end : IsEndOf plan a.end told
  pub is_line : line ≡ line_with a told

-- the lines of fates, in order
abbrev pub AreLinesOf : Topology → List Attempt → List AttemptText → Type 0
AreLinesOf plan fates lines = AllZip (IsLineOf plan) fates lines

-- the text of a report of a plan, of these fates, tables and tail
pub record IsReportText (plan : Topology) (fates : List Attempt) (tables : List Table) (tail : Tail)
    (text : List ℕ) : Type 0 where
  pub lines : List AttemptText
  pub are_lines : AreLinesOf plan fates lines
  pub printed : text ≡ report_text (record {
    attempts = lines;
    cells = cells_of tables;
    tail = tail_told tail;
  })
