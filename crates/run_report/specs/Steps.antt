-- What the steps of the bodies have written. No public clause cites these.
use Rattle.std.specs.Prelude.{◌≡◌, ℕ, List, ◌++◌, codes, decimal}
use Rattle.std.specs.List.{flat_map}
use Rattle.tree_model.specs.topology_plan.Topology.{Topology}
use Rattle.tree_model.specs.declared.messages.AckMsg.{AckMsg}
use Rattle.attempt_fates.specs.declared.fates.Attempt.{Attempt}
use Rattle.attempt_fates.specs.declared.fates.End.{End}
use Rattle.run_report.specs.Fated.{AreOpenOf, IsEndOf, IsLineOf, AreLinesOf}
use Rattle.report_grammar.specs.Report.{EdgeText, edges_text, EndText, coincided, end_text, AttemptText, attempt_text, spans_text}

-- an attempt's line up to how it ended
unfoldable pub heading_of : Attempt → List ℕ
heading_of a =
    codes "attempt " ++ decimal a.root.txid ++ codes "." ++ decimal a.root.attempt
    ++ codes " records " ++ spans_text a.spans
    ++ codes " ticks " ++ decimal a.start ++ codes "-" ++ decimal a.finish ++ codes " "

-- the open edges of a list were added to a text
pub record AddsOpen (list : List AckMsg) (old new : List ℕ) : Type 0 where
  pub edges : List EdgeText
  pub are_open : AreOpenOf list edges
  pub added : new ≡ old ++ edges_text edges

-- the end of an attempt with such a list was added to a text
pub record AddsCoincided (list : List AckMsg) (old new : List ℕ) : Type 0 where
  pub edges : List EdgeText
  pub are_open : AreOpenOf list edges
  pub added : new ≡ old ++ end_text (coincided edges)

-- an end was added to a text
pub record AddsEnd (plan : Topology) (end : End) (old new : List ℕ) : Type 0 where
  pub told : EndText
  pub is_end : IsEndOf plan end told
  pub added : new ≡ old ++ end_text told

-- the line of an attempt was added to a text
pub record AddsLine (plan : Topology) (a : Attempt) (old new : List ℕ) : Type 0 where
  pub line : AttemptText
  pub is_line : IsLineOf plan a line
  pub added : new ≡ old ++ attempt_text line

-- the lines of fates were added to a text
pub record AddsLines (plan : Topology) (fates : List Attempt) (old new : List ℕ) : Type 0 where
  pub lines : List AttemptText
  pub are_lines : AreLinesOf plan fates lines
  pub added : new ≡ old ++ flat_map attempt_text lines
