-- The front of an attempt's line, as it is printed. No public clause cites this.
use Rattle.std.specs.Prelude.{ℕ, List, ◌++◌, codes, decimal}
use Rattle.report_grammar.specs.Report.{AttemptText, spans_text}

-- up to how it ended
unfoldable pub heading_text : AttemptText → List ℕ
heading_text a =
    codes "attempt " ++ decimal a.txid ++ codes "." ++ decimal a.attempt
    ++ codes " records " ++ spans_text a.spans
    ++ codes " ticks " ++ decimal a.start ++ codes "-" ++ decimal a.finish ++ codes " "
