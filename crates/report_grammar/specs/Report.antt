-- The text of a report. This project's own.
use Rattle.std.specs.Prelude.{ℕ, zero, suc, ◌+◌, ◌/◌, ◌%◌, ℤ, List, [], ◌∷◌, ◌++◌, codes, decimal, if◌then◌else◌, nat_lt}
use Rattle.std.specs.List.{flat_map}
use Rattle.std.specs.Fmt.{signed_decimal}
use Rattle.storm_values.specs.declared.value.Root.{Root}
use Rattle.record_spans.specs.declared.span.Span.{Span}

-- an edge of a tuple tree: a path, and the id of its tuple
pub record EdgeText : Type 0 where
  pub path : List ℕ
  pub id : ℕ

-- how an attempt ended
pub data EndText : Type 0 where
  committed : EndText
  failed : (path : List ℕ) → EndText
  timed_out : EndText
  coincided : (edges : List EdgeText) → EndText
  commit_failed : (state : List ℕ) (part : ℕ) → EndText
  dropped : (by : Root) → EndText

pub record AttemptText : Type 0 where
  pub txid : ℕ
  pub attempt : ℕ
  pub spans : List Span
  pub start : ℕ
  pub finish : ℕ
  pub ending : EndText

-- the value of a key, by the name of the state and the key's text
pub record CellText : Type 0 where
  pub state : List ℕ
  pub key : List ℕ
  pub value : ℤ

pub data TailText : Type 0 where
  ok : (records batches : ℕ) → TailText
  exhausted : (txid : ℕ) → TailText
  unfinished : (committed_count : ℕ) → TailText

pub record ReportText : Type 0 where
  pub attempts : List AttemptText
  pub cells : List CellText
  pub tail : TailText

-- numbers joined by full stops
abbrev pub path_text : List ℕ → List ℕ
path_text [] = []
path_text (n ∷ []) = decimal n
path_text (n ∷ m ∷ path) = decimal n ++ 46 ∷ path_text (m ∷ path)

-- a digit below 16, in lower case
abbrev pub hex_digit : ℕ → ℕ
hex_digit d = if nat_lt d 10 then 48 + d else 87 + d

-- so many hexadecimal digits of a number, the highest first
unfoldable pub hex_text : ℕ → ℕ → List ℕ
hex_text zero n = []
hex_text (suc digits) n = hex_text digits (n / 16) ++ hex_digit (n % 16) ∷ []

abbrev pub edge_text : EdgeText → List ℕ
edge_text edge = path_text edge.path ++ 58 ∷ hex_text 16 edge.id

-- edges joined by spaces
abbrev pub edges_text : List EdgeText → List ℕ
edges_text [] = []
edges_text (edge ∷ []) = edge_text edge
edges_text (edge ∷ next ∷ edges) = edge_text edge ++ 32 ∷ edges_text (next ∷ edges)

abbrev pub span_text : Span → List ℕ
span_text span = decimal span.first ++ 45 ∷ decimal span.last

-- spans joined by commas
abbrev pub spans_text : List Span → List ℕ
spans_text [] = []
spans_text (span ∷ []) = span_text span
spans_text (span ∷ next ∷ spans) = span_text span ++ 44 ∷ spans_text (next ∷ spans)

-- the numbers of a transaction and of an attempt, joined by a full stop
abbrev pub root_text : Root → List ℕ
root_text root = decimal root.txid ++ 46 ∷ decimal root.attempt

abbrev pub end_text : EndText → List ℕ
end_text committed = codes "committed"
end_text (failed path) = codes "failed " ++ path_text path
end_text timed_out = codes "timed out"
end_text (coincided edges) = codes "coincided " ++ edges_text edges
end_text (commit_failed state part) = codes "commit failed " ++ state ++ 32 ∷ decimal part
end_text (dropped by) = codes "dropped " ++ root_text by

-- attempt TXID.ATTEMPT records FIRST-LAST,FIRST-LAST .. ticks START-FINISH, and how it ended
abbrev pub attempt_text : AttemptText → List ℕ
attempt_text a =
    codes "attempt " ++ decimal a.txid ++ codes "." ++ decimal a.attempt
    ++ codes " records " ++ spans_text a.spans
    ++ codes " ticks " ++ decimal a.start ++ codes "-" ++ decimal a.finish
    ++ codes " " ++ end_text a.ending ++ codes "\n"

-- cell STATE KEY VALUE
abbrev pub cell_text : CellText → List ℕ
cell_text cell =
    codes "cell " ++ cell.state ++ codes " " ++ cell.key ++ codes " " ++ signed_decimal cell.value
    ++ codes "\n"

abbrev pub tail_text : TailText → List ℕ
tail_text (ok records batches) =
    codes "ok " ++ decimal records ++ codes " records " ++ decimal batches ++ codes " batches\n"
tail_text (exhausted txid) = codes "exhausted " ++ decimal txid ++ codes "\n"
tail_text (unfinished committed_count) =
    codes "unfinished " ++ decimal committed_count ++ codes "\n"

-- each line ends with byte 10: the attempts in the order of their ends, the cells, and the tail
unfoldable pub report_text : ReportText → List ℕ
report_text report =
    flat_map attempt_text report.attempts ++ flat_map cell_text report.cells
    ++ tail_text report.tail
