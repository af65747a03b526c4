-- What an operation reads and leaves, by its function, whatever the values are. This project's own.
use Rattle.std.specs.Prelude.{◌≢◌, ℕ, ◌+◌, ◌≤◌, List, length, true, false, AllPairs, slice_index_or}
use Rattle.storm_values.specs.Limits.{most_fields, most_constant_bytes, most_below}
use Rattle.storm_values.specs.declared.value.Value.{Value}
use Rattle.storm_values.specs.declared.value.Value.TheVariants.{Int, Text}
use Rattle.topology_plan.specs.declared.function.Attempts.{Attempts}
use Rattle.topology_plan.specs.declared.function.Attempts.TheVariants.{MakeRows, FailBelow, MuteBelow}
use Rattle.topology_plan.specs.declared.function.Function.{Function}
use Rattle.topology_plan.specs.declared.function.Function.TheVariants.{Split, Project, Filter, Set, Len, Route, Flaky, Mute, Custom}
use Rattle.topology_plan.specs.declared.function.Leaves.{Leaves}
use Rattle.topology_plan.specs.declared.function.Leaves.TheVariants.{Same, Read, Made, More}
use Rattle.topology_plan.specs.declared.function.Shape.{Shape}
use Rattle.topology_plan.specs.Valid.{IsBetween}

-- of an operation that makes rows at each attempt
abbrev pub reading : ℕ → ℕ → Leaves → Shape
reading least most leaves = record {
  least = least;
  most = most;
  leaves = leaves;
  chooses = false;
  attempts = MakeRows;
}

-- of an operation that reads no field, and leaves each row as it is
abbrev pub trying : Attempts → Shape
trying attempts = record (reading 0 0 Same) { attempts = attempts }

-- how many fields an operation reads, which fields its rows have, whether it chooses the task of
-- each, and what comes of its attempts
abbrev pub shape : Function → Shape
shape Split = reading 1 1 Made
shape Project = reading 1 most_fields Read
shape (Filter test value) = reading 1 1 Same
shape (Set value) = reading 1 1 Same
shape Len = reading 1 1 More
shape Route = record (reading 1 1 Same) { chooses = true }
shape (Flaky below) = trying (FailBelow below)
shape (Mute below) = trying (MuteBelow below)
shape Custom = reading 0 0 Same

-- a number, or a text of at most 256 bytes
abbrev pub IsConstant : Value → Type 0
IsConstant (Int number) = Unit {0}
IsConstant (Text bytes) = length bytes ≤ most_constant_bytes

-- the constant of an operation, and the attempts that fail or are mute, are within their limits
abbrev pub IsFunctionInRange : Function → Type 0
IsFunctionInRange (Filter test value) = IsConstant value
IsFunctionInRange (Set value) = IsConstant value
IsFunctionInRange (Flaky below) = IsBetween below 1 most_below
IsFunctionInRange (Mute below) = IsBetween below 1 most_below
IsFunctionInRange _ = Unit {0}

-- ---- by the shape

-- the first field that is read
abbrev pub first_field : List ℕ → ℕ
first_field reads = slice_index_or reads 0 0

-- as many fields are read as an operation may read
abbrev pub AreRead : {A : Type 0} → Function → List A → Type 0
AreRead function reads = IsBetween (length reads) (shape function).least (shape function).most

-- how many fields are left of n, by how many are read
abbrev pub width_left : Leaves → ℕ → ℕ → ℕ
width_left Same read n = n
width_left Read read n = read
width_left Made read n = 1
width_left More read n = n + 1

-- where the fields that are read are left, none of them stands twice
abbrev pub AreLeftOnce : Leaves → List ℕ → Type 0
AreLeftOnce Read reads = AllPairs (λ a b. a ≢ b) reads
AreLeftOnce _ reads = Unit {0}
