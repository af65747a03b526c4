use Rattle.std.proofs.Common.{◌≡◌, ◌≤◌, suc, ◌-◌, ◌++◌, map, length, All}
use Rattle.storm_values.specs.Lines.{lines_of, row_of}
use Rattle.storm_values.specs.Rows.{IsRow}
use Rattle.storm_values.proofs.InputLemmas.{fault_of_lines}
use Rattle.storm_values.proofs.lines.read_input.Given as goal

abbrev pub invariant-loop-rest : goal.invariant-loop-rest
invariant-loop-rest l = record {
  records : l.rows ++ map row_of (lines_of l.rest) ≡ map row_of (lines_of l.bytes);
  fault : fault_of_lines l.want (suc (length l.rows)) (1000000 - length l.rows) (lines_of l.rest) ≡ fault_of_lines l.want 1 1000000 (lines_of l.bytes);
  few : length l.rows ≤ 1000000;
  within : All (IsRow l.want) l.rows;
}

abbrev pub decreases-loop-rest : goal.decreases-loop-rest
decreases-loop-rest l = length l.rest
