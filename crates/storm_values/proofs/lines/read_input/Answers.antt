use Rattle.std.proofs.Common.{◌≡◌, suc, ◌+◌, ◌-◌, ◌<◌, [], ◌∷◌, ◌++◌, length, ap, sym, ◌∙◌, arith}
use Rattle.std.proofs.lemmas.Bool.Decides.{nat_tests}
use Rattle.std.proofs.lemmas.List.{append_assoc, append-nil, length-append, nil_from_length}
use Rattle.std.proofs.lemmas.List.Elements.{All-push}
use Rattle.std.proofs.lemmas.Result.{err_from_is_err_and}
use Rattle.storm_values.specs.Rows.{IsRow}
use Rattle.storm_values.specs.Lines.{lines_of}
use Rattle.storm_values.proofs.InputLemmas.{input_fault-TooBig, input_fault-lines, fault_of_lines-nil, fault_of_lines-TooMany, fault_of_lines-Line, fault_of_lines-cons, length-lines_of, records_of-lines}
use Rattle.storm_values.proofs.lines.read_input.Goals as goal

pub returns-then-bytes-gt-MOST_INPUT_BYTES-clause-fault :
    goal.returns-then-bytes-gt-MOST_INPUT_BYTES-clause-fault
returns-then-bytes-gt-MOST_INPUT_BYTES-clause-fault c = λ _. input_fault-TooBig c.args.bytes.now c.args.want (omega arith)

pub returns-then-read-eq-MOST_LINES-clause-fault :
    goal.returns-then-read-eq-MOST_LINES-clause-fault
returns-then-read-eq-MOST_LINES-clause-fault c =
    let whole = input_fault-lines c.args.bytes.now c.args.want (omega arith) ∙ sym c.loop-rest.invariant.fault in
    let none_left : 1000000 - length c.loop-rest.rows ≡ 0 = omega arith in
    let some : 0 < length c.loop-rest.rest.now = grind (arith, nat_tests) in
    λ _. whole ∙ rw none_left (fault_of_lines-TooMany c.args.want _ (lines_of c.loop-rest.rest.now) (length-lines_of c.loop-rest.rest.now some))

pub returns-in_err-row-clause-fault : goal.returns-in_err-row-clause-fault
returns-in_err-row-clause-fault c =
    let made = err_from_is_err_and c.from_residual.result c.from_residual.ensures.1 in
    let number : c.len-read.result + 1 ≡ suc (length c.loop-rest.rows) = omega arith in
    let whole = input_fault-lines c.args.bytes.now c.args.want (omega arith) ∙ sym c.loop-rest.invariant.fault in
    let left : 0 < 1000000 - length c.loop-rest.rows = omega arith in
    rw (made.1, made.2) (λ other. whole
    ∙ rw c.split_line.ensures.lines (fault_of_lines-Line c.args.want _ _ c.split_line.result.0.now _ c.in_err-row.field-0.0 left (rw number at (c.in_err-row.ensures.fault other))))

pub loop-rest-preserved : goal.loop-rest-preserved
loop-rest-preserved c =
    let rows = c.loop-rest.rows in
    let line = c.split_line.result.0.now in
    let split = c.split_line.ensures.lines in
    let good = c.in_ok-row.ensures.good in
    let pushed : c.push.new.self ≡ rows ++ c.in_ok-row.row ∷ [] = c.in_ok-push.ensures.ok in
    let longer : length c.push.new.self ≡ suc (length rows) = ap length pushed ∙ length-append rows (c.in_ok-row.row ∷ []) ∙ omega arith in
    let left : 1000000 - length rows ≡ suc (1000000 - suc (length rows)) = omega arith in
    let step = fault_of_lines-cons c.args.want (suc (length rows)) _ _ line (lines_of c.split_line.result.1.now) left good.0 in
    record {
      records = rw (pushed, append_assoc) (rw (split, ← good.1) at c.loop-rest.invariant.records);
      fault = rw longer (sym step ∙ rw split at c.loop-rest.invariant.fault);
      few = omega arith;
      within = rw pushed (All-push (IsRow c.args.want) rows c.in_ok-row.row c.loop-rest.invariant.within c.in_ok-row.ensures.within);
    }

pub returns-clause-good : goal.returns-clause-good
returns-clause-good c =
    let empty : length c.loop-rest.rest.now ≡ 0 = grind (arith, nat_tests) in
    let done : c.loop-rest.rest.now ≡ [] = nil_from_length c.loop-rest.rest.now empty in
    let whole = input_fault-lines c.args.bytes.now c.args.want (omega arith) in (
      whole ∙ sym c.loop-rest.invariant.fault ∙ rw done (fault_of_lines-nil c.args.want _ _),
      sym (append-nil c.loop-rest.rows) ∙ rw done at c.loop-rest.invariant.records ∙ sym (records_of-lines c.args.bytes.now),
    )
