-- What an operation of a bolt makes of a row. This project's own.
use Rattle.std.specs.Prelude.{ℕ, pos, Bool, false, not, List, [], ◌∷◌, ◌++◌, length, map, filter, nat_lt, ◌==◌, if◌then◌else◌, Option, slice_get, slice_set}
use Rattle.std.specs.List.{filter_map, slice_split}
use Rattle.std.specs.Option.{option_map_or}
use Rattle.std.specs.Ordering.{is_eq, is_lt}
use Rattle.std.specs.declared.cmp.Ordering.{Ordering}
use Rattle.storm_values.specs.declared.value.Value.{Value}
use Rattle.storm_values.specs.declared.value.Value.TheVariants.{Int, Text}
use Rattle.storm_values.specs.Order.{value_cmp}
use Rattle.topology_plan.specs.declared.parts.Op.{Op}
use Rattle.topology_plan.specs.declared.function.Attempts.{Attempts}
use Rattle.topology_plan.specs.declared.function.Attempts.TheVariants.{FailBelow, MuteBelow}
use Rattle.topology_plan.specs.declared.function.Function.{Function}
use Rattle.topology_plan.specs.declared.function.Function.TheVariants.{Split, Project, Filter, Set, Len, Route, Flaky, Mute}
use Rattle.topology_plan.specs.declared.function.Function.TheVariants as function
use Rattle.topology_plan.specs.declared.function.Test.{Test}
use Rattle.topology_plan.specs.declared.function.Test.TheVariants.{Eq, Ne, Lt}
use Rattle.topology_plan.specs.Functions.{shape, first_field}
use Rattle.bolt_ops.specs.RowOp.{Custom}
use Rattle.bolt_ops.specs.declared.operation.Outcome.{Outcome}
use Rattle.bolt_ops.specs.declared.operation.Outcome.TheVariants as outcome

-- the value of a field, if the row has the field
abbrev pub value_at : List Value → ℕ → Option Value
value_at row i = slice_get row i

-- the bytes of a text; a number has none
abbrev pub bytes_of : Value → List ℕ
bytes_of (Int number) = []
bytes_of (Text bytes) = bytes

-- the bytes of a field's text; where there is no such field, none
abbrev pub text_at : List Value → ℕ → List ℕ
text_at row field = option_map_or bytes_of (value_at row field) []

-- the pieces of a text between the bytes that are `byte`; two of them side by side have an
-- empty piece between them
abbrev pub pieces : ℕ → List ℕ → List (List ℕ)
pieces byte text = slice_split (λ b. b == byte) text

-- the longest runs of bytes without a space, in order
abbrev pub words : List ℕ → List (List ℕ)
words text = filter (λ piece. nat_lt 0 (length piece)) (pieces 32 text)

-- whether a filter keeps a value that has this order to its constant
abbrev pub passes : Test → Ordering → Bool
passes Eq order = is_eq order
passes Ne order = not (is_eq order)
passes Lt order = is_lt order

-- whether a filter keeps the row; one without the field it does not
abbrev pub keeps : ℕ → Test → Value → List Value → Bool
keeps field test value row =
    option_map_or (λ found. passes test (value_cmp found value)) (value_at row field) false

-- the rows that a function of these fields makes of a row; `custom` is what the user's own operation
-- means
abbrev pub made : Custom → Function → List ℕ → List Value → List (List Value)
made custom Split reads row = map (λ word. Text word ∷ []) (words (text_at row (first_field reads)))
made custom Project reads row = filter_map (value_at row) reads ∷ []
made custom (Filter test value) reads row =
    if keeps (first_field reads) test value row then row ∷ [] else []
made custom (Set value) reads row = slice_set row (first_field reads) value ∷ []
made custom Len reads row =
    (row ++ Int (pos (length (text_at row (first_field reads)))) ∷ []) ∷ []
made custom Route reads row = row ∷ []
made custom (Flaky below) reads row = row ∷ []
made custom (Mute below) reads row = row ∷ []
made custom function.Custom reads row = custom.rows row

-- the rows that an operation makes of a row
abbrev pub out : Custom → Op → List Value → List (List Value)
out custom op row = made custom op.function op.reads row

-- whether an attempt fails; attempts are counted from 1
abbrev pub is_failing : Attempts → ℕ → Bool
is_failing (FailBelow below) attempt = nat_lt attempt below
is_failing _ attempt = false

-- whether nothing is answered at an attempt
abbrev pub is_silent : Attempts → ℕ → Bool
is_silent (MuteBelow below) attempt = nat_lt attempt below
is_silent _ attempt = false

-- a flaky operation fails at each attempt below a number
abbrev pub fails_at : Op → ℕ → Bool
fails_at op attempt = is_failing (shape op.function).attempts attempt

-- a mute operation answers nothing at each attempt below a number
abbrev pub is_mute_at : Op → ℕ → Bool
is_mute_at op attempt = is_silent (shape op.function).attempts attempt

-- what an attempt at a row comes to
abbrev pub exec_of : Custom → Op → List Value → ℕ → Outcome
exec_of custom operation row attempt =
    if fails_at operation attempt then outcome.Fail
    else (if is_mute_at operation attempt then outcome.Mute
    else outcome.Rows (out custom operation row))
