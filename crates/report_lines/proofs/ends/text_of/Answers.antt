use Rattle.std.proofs.Common.{Some, sym, ap, ◌∙◌}
use Rattle.std.proofs.lemmas.Str.{is_utf8-from_IsUtf8}
use Rattle.report_grammar.proofs.LinesRead.{text_reads, text_none}
use Rattle.report_lines.proofs.ends.text_of.Goals as goal

pub returns-in_ok-from_str-in-Ok : goal.returns-in_ok-from_str-in-Ok
returns-in_ok-from_str-in-Ok c =
    ap Some (c.in_ok-from_str-in-Ok.ensures ∙ c.in-Ok.ensures.0)
    ∙ sym (text_reads c.args.bytes.now (is_utf8-from_IsUtf8 c.args.bytes.now c.in-Ok.ensures.1))

pub returns-in-Err : goal.returns-in-Err
returns-in-Err c = sym (text_none c.args.bytes.now c.in-Err.ensures)
