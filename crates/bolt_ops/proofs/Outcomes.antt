-- What an outcome says of the rows.
use Rattle.std.proofs.Common.{◌≡◌, List, ℕ, Bool, true, false}
use Rattle.std.specs.Prelude.{if◌then◌else◌}
use Rattle.storm_values.specs.declared.value.Value.{Value}
use Rattle.topology_plan.specs.declared.parts.Op.{Op}
use Rattle.bolt_ops.specs.declared.operation.Outcome.TheVariants.{Rows, Fail, Mute}
use Rattle.bolt_ops.specs.RowOp.{Custom}
use Rattle.bolt_ops.specs.Operations.{out, fails_at, is_mute_at, exec_of}

same_rows : (fails mute : Bool) (made rows : List (List Value)) → (if fails then Fail else (if mute then Mute else Rows made)) ≡ Rows rows → rows ≡ made
same_rows true mute made rows is = cc
same_rows false true made rows is = cc
same_rows false false made rows is = cc

-- where an attempt comes to rows, they are those of the operation
pub rows_from_exec_of : (custom : Custom) (op : Op) (row : List Value) (attempt : ℕ) (rows : List (List Value))
    → exec_of custom op row attempt ≡ Rows rows → rows ≡ out custom op row
rows_from_exec_of custom op row attempt rows is = same_rows (fails_at op attempt) (is_mute_at op attempt) (out custom op row) rows is
