use Rattle.std.proofs.Common.{ap, sym, subst, ◌∙◌, arith, IsUtf8}
use Rattle.std.specs.Result.{result_ok}
use Rattle.std.proofs.lemmas.Fmt.{IsAscii-decimal_wide, parse-decimal_wide}
use Rattle.std.proofs.lemmas.Str.{IsUtf8-from_ascii}
use Rattle.report_lines.proofs.cells.magnitude_of.Goals as goal

pub returns-in-Ok : goal.returns-in-Ok
returns-in-Ok c = λ n small is.
    let read = parse-decimal_wide 128 n c.in-Ok.text.now c.parse.result small (omega arith) (c.in-Ok.ensures.0 ∙ is) c.parse.ensures.value.0 in
    c.ok.ensures.value ∙ ap result_ok read

pub returns-in-Err : goal.returns-in-Err
returns-in-Err c = λ n small is.
    absurd (c.in-Err.ensures (subst IsUtf8 (sym is) (IsUtf8-from_ascii _ (IsAscii-decimal_wide n (omega arith)))))
