-- The operations of bolts: the word of each, what its other members say, and what is in range. This
-- project's own.
use Rattle.std.specs.Prelude.{◌≡◌, ℕ, List, [], ◌∷◌, Option, Some, None, IsSome, IfSome, All, codes}
use Rattle.topology_form.specs.Prelude.{most_fields, most_below, Value, IsName}
use Rattle.topology_form.specs.declared.operations.{Operation.Operation, OperationWord.OperationWord}
use Rattle.topology_form.specs.declared.operations.OperationWord.TheVariants as op
use Rattle.topology_form.specs.Reading.{Reader, ◌>>=◌, done, required, a_number, a_name, a_word, some_names, a_constant}
use Rattle.topology_plan.specs.Functions.{shape, AreRead, IsFunctionInRange}
use Rattle.topology_plan.specs.declared.function.{Function.Function, Leaves.Leaves, Test.Test}
use Rattle.topology_plan.specs.declared.function.Function.TheVariants.{Split, Project, Filter, Set, Len, Route, Flaky, Mute, Custom}
use Rattle.topology_plan.specs.declared.function.Leaves.TheVariants.{Same, Read, Made, More}
use Rattle.topology_plan.specs.declared.function.Test.TheVariants.{Eq, Ne, Lt}

-- ---- members that several operations have

abbrev pub tests : List (List ℕ × Test)
tests = (codes "eq", Eq) ∷ (codes "ne", Ne) ∷ (codes "lt", Lt) ∷ []

abbrev pub some_fields : Reader (List (List ℕ))
some_fields = required (codes "fields") (some_names 1 most_fields)

abbrev pub a_field : Reader (List (List ℕ))
a_field = do field ← required (codes "field") a_name; done (field ∷ [])

abbrev pub a_value : Reader Value
a_value = required (codes "value") a_constant

abbrev pub a_limit : Reader ℕ
a_limit = required (codes "below") (a_number 1 most_below)

-- a function of fields that makes none
abbrev pub doing : List (List ℕ) → Function → Operation
doing reads function = record { reads = reads; into = None; function = function }

-- a function of one field that makes one
abbrev pub making : Function → Reader Operation
making function = do
  reads ← a_field
  into ← required (codes "as") a_name
  done (record { reads = reads; into = Some into; function = function })

-- ---- the operations

abbrev pub operation_words : List (List ℕ × OperationWord)
operation_words =
    (codes "split", op.Split) ∷ (codes "project", op.Project) ∷ (codes "filter", op.Filter)
    ∷ (codes "set", op.Set) ∷ (codes "len", op.Len) ∷ (codes "route", op.Route)
    ∷ (codes "flaky", op.Flaky) ∷ (codes "mute", op.Mute) ∷ (codes "custom", op.Custom) ∷ []

-- the operation of a word, by the other members
abbrev pub operation_of : OperationWord → Reader Operation
operation_of op.Split = making Split
operation_of op.Project = do reads ← some_fields; done (doing reads Project)
operation_of op.Filter = do
  reads ← a_field
  test ← required (codes "test") (a_word tests)
  value ← a_value
  done (doing reads (Filter test value))
operation_of op.Set = do reads ← a_field; value ← a_value; done (doing reads (Set value))
operation_of op.Len = making Len
operation_of op.Route = do reads ← a_field; done (doing reads Route)
operation_of op.Flaky = do below ← a_limit; done (doing [] (Flaky below))
operation_of op.Mute = do below ← a_limit; done (doing [] (Mute below))
operation_of op.Custom = done (doing [] Custom)

unfoldable pub an_operation : Reader Operation
an_operation = do word ← required (codes "do") (a_word operation_words); operation_of word

-- ---- what is in range

-- an operation that leaves a field that it makes has a name for it, and no other has one
abbrev pub HasInto : Leaves → Option (List ℕ) → Type 0
HasInto Same into = into ≡ None
HasInto Read into = into ≡ None
HasInto Made into = IsSome into × IfSome into IsName
HasInto More into = IsSome into × IfSome into IsName

-- as many fields are read as the function may read, a field is named where one is made, and a
-- constant and the attempts that fail or are mute are in range
pub record IsOperationInRange (operation : Operation) : Type 0 where
  pub count : AreRead operation.function operation.reads
  pub reads : All IsName operation.reads
  pub into : HasInto (shape operation.function).leaves operation.into
  pub range : IsFunctionInRange operation.function
