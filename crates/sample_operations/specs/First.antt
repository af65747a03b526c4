-- Rows that are turned round, and the first of some amounts.
use Rattle.std.proofs.Common.{refl}
use Rattle.bolt_ops.specs.RowOp.{Custom, IsCustom, IsCustom-reversed, reversed_rows}

abbrev pub first : Custom
first = record {
  rows = reversed_rows;
  one = λ amount. amount;
  combine = λ earlier later. earlier;
}

pub IsCustom-first : IsCustom first
IsCustom-first =
    record {
      few = IsCustom-reversed.few;
      widths = IsCustom-reversed.widths;
      short = IsCustom-reversed.short;
      associative = λ a b c. refl;
    }
