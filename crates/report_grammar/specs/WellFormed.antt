-- Which reports are well formed. This project's own.
use Rattle.std.specs.Prelude.{◌≡◌, ◌<◌, ◌^◌, ℕ, List, [], length, FitsSigned}
use Rattle.std.specs.Int.{w128}
use Rattle.std.specs.List.{AllByRecursion}
use Rattle.storm_values.specs.declared.value.Root.{Root}
use Rattle.record_spans.specs.declared.span.Span.{Span}
use Rattle.topology_plan.specs.Texts.{IsName}
use Rattle.key_texts.specs.KeyTexts.{IsKeyText}
use Rattle.report_grammar.specs.Report.{EdgeText, EndText, committed, failed, timed_out, coincided, commit_failed, dropped, AttemptText, CellText, TailText, ok, exhausted, unfinished, ReportText}

-- one number at least, each of 32 bits
pub record IsPath (path : List ℕ) : Type 0 where
  pub some : 0 < length path
  pub each : AllByRecursion (λ number. number < 2 ^ 32) path

-- a path and an id of 64 bits
pub record IsEdge (edge : EdgeText) : Type 0 where
  pub path : IsPath edge.path
  pub id : edge.id < 2 ^ 64

-- a number of 64 bits, and one of 32 bits
pub record IsRoot (root : Root) : Type 0 where
  pub txid : root.txid < 2 ^ 64
  pub attempt : root.attempt < 2 ^ 32

abbrev pub IsEnd : EndText → Type 0
IsEnd committed = Unit {0}
IsEnd (failed path) = IsPath path
IsEnd timed_out = Unit {0}
IsEnd (coincided edges) = (0 < length edges) × AllByRecursion IsEdge edges
IsEnd (commit_failed state part) = IsName state × (part < 2 ^ 32)
IsEnd (dropped by) = IsRoot by

-- a first and a last number of 64 bits
pub record IsSpan (span : Span) : Type 0 where
  pub first : span.first < 2 ^ 64
  pub last : span.last < 2 ^ 64

-- one span at least
pub record AreSpans (spans : List Span) : Type 0 where
  pub some : 0 < length spans
  pub each : AllByRecursion IsSpan spans

pub record IsAttempt (a : AttemptText) : Type 0 where
  pub txid : a.txid < 2 ^ 64
  pub attempt : a.attempt < 2 ^ 32
  pub spans : AreSpans a.spans
  pub start : a.start < 2 ^ 64
  pub finish : a.finish < 2 ^ 64
  pub ending : IsEnd a.ending

pub record IsCell (c : CellText) : Type 0 where
  pub state : IsName c.state
  pub key : IsKeyText c.key
  pub value : FitsSigned w128 c.value

abbrev pub IsTail : TailText → Type 0
IsTail (ok records batches) = (records < 2 ^ 64) × (batches < 2 ^ 64)
IsTail (exhausted txid) = txid < 2 ^ 64
IsTail (unfinished committed_count) = committed_count < 2 ^ 64

-- a report has cells only where all was committed
abbrev pub Fit : List CellText → TailText → Type 0
Fit cells (ok records batches) = Unit {0}
Fit cells (exhausted txid) = cells ≡ []
Fit cells (unfinished committed_count) = cells ≡ []

pub record IsWellFormed (report : ReportText) : Type 0 where
  pub attempts : AllByRecursion IsAttempt report.attempts
  pub cells : AllByRecursion IsCell report.cells
  pub tail : IsTail report.tail
  pub fit : Fit report.cells report.tail
