use Rattle.std.proofs.Common.{◌+◌, arith}
use Rattle.report_lines.proofs.NumberLemmas.{value_more, bound_more, value_within}
use Rattle.report_lines.proofs.cursor.digits_value.Goals as goal

pub overflow_mul-value : goal.overflow_mul-value
overflow_mul-value c =
    let bound = c.loop-digit.invariant.bound in
    omega (arith, value_within c.loop-digit.value c.loop-digit.digit-index (omega arith) bound)

pub overflow_add-value : goal.overflow_add-value
overflow_add-value c =
    let bytes = c.args.digits.now in
    let value = c.loop-digit.value in
    let at = c.loop-digit.digit-index in
    let bound = c.loop-digit.invariant.bound in
    let below = bound_more bytes value at c.loop-digit-test.true c.requires.digits bound in
    omega (arith, value_within _ (at + 1) (omega arith) below)

pub loop-digit-preserved : goal.loop-digit-preserved
loop-digit-preserved c =
    let bytes = c.args.digits.now in
    let value = c.loop-digit.value in
    let at = c.loop-digit.digit-index in
    let bound = c.loop-digit.invariant.bound in
    let below = bound_more bytes value at c.loop-digit-test.true c.requires.digits bound in
    record {
      value = omega (arith, value_more bytes at c.loop-digit-test.true c.requires.digits);
      bound = rw c.from.ensures below;
    }
