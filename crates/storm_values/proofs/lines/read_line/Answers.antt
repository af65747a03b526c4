use Rattle.std.proofs.Common.{◌≡◌, length, ap, sym, ◌∙◌, arith}
use Rattle.std.proofs.lemmas.Result.{err_from_is_err_and}
use Rattle.storm_values.specs.Lines.{values_of}
use Rattle.storm_values.proofs.LineLemmas.{line_fault-TooLong, line_fault-unread, line_fault-WrongCount, line_fault-None, row_of-array}
use Rattle.storm_values.proofs.RowLemmas.{row_within}
use Rattle.storm_values.proofs.lines.read_line.Goals as goal

pub returns-then-line-gt-MOST_LINE_BYTES-clause-fault :
    goal.returns-then-line-gt-MOST_LINE_BYTES-clause-fault
returns-then-line-gt-MOST_LINE_BYTES-clause-fault c = λ _. line_fault-TooLong c.args.line.now c.args.want (omega arith)

pub returns-in_err-row-clause-fault : goal.returns-in_err-row-clause-fault
returns-in_err-row-clause-fault c =
    let made = err_from_is_err_and c.from_residual.result c.from_residual.ensures.1 in
    rw (made.1, made.2) (λ other. line_fault-unread c.args.line.now c.args.want c.in_err-row.field-0.0 (omega arith) (c.in_err-row.ensures.fault other))

pub returns-then-found-want-clause-fault : goal.returns-then-found-want-clause-fault
returns-then-found-want-clause-fault c =
    let is = c.in_ok-row.ensures.good in
    let counted : length (values_of is.items) ≡ c.len-found.result = ap length (sym is.values) ∙ sym c.len-found.ensures in
    let differs = λ (same : length (values_of is.items) ≡ c.args.want). c.if-found-want.true (sym counted ∙ same) in
    λ _. rw (← counted) (line_fault-WrongCount c.args.line.now c.args.want is.items (omega arith) is.array is.good differs)

pub returns-clause-good : goal.returns-clause-good
returns-clause-good c =
    let is = c.in_ok-row.ensures.good in
    let counted : length (values_of is.items) ≡ c.args.want = ap length (sym is.values) ∙ sym c.len-found.ensures ∙ c.if-found-want.false in (
      line_fault-None c.args.line.now c.args.want is.items (omega arith) is.array is.good counted,
      is.values ∙ sym (row_of-array c.args.line.now is.items is.array),
    )

pub returns-clause-within : goal.returns-clause-within
returns-clause-within c =
    let is = c.in_ok-row.ensures.good in
    let counted : length (values_of is.items) ≡ c.args.want = ap length (sym is.values) ∙ sym c.len-found.ensures ∙ c.if-found-want.false in
    rw is.values (row_within c.args.line.now c.args.want is.items (omega arith) is.array counted)
