-- What every shape keeps: an operation has a line of its own where it leaves the fields that it reads, or chooses tasks.
use Rattle.std.proofs.Common.{◌≡◌, ℕ, ◌≤◌, Bool, true, false, refl, lit≤}
use Rattle.storm_values.specs.Limits.{most_fields}
use Rattle.topology_plan.specs.declared.function.Function.{Function}
use Rattle.topology_plan.specs.declared.function.Function.TheVariants.{Project, Route}
use Rattle.topology_plan.specs.declared.function.Leaves.{Leaves}
use Rattle.topology_plan.specs.declared.function.Leaves.TheVariants.{Same, Read}
use Rattle.topology_plan.specs.declared.function.Shape.{Shape}
use Rattle.topology_plan.specs.Functions.{shape}

-- where the fields that are read are left, they are 1 to most_fields
abbrev pub AreSomeRead : Leaves → ℕ → ℕ → Type 0
AreSomeRead Read least most = (1 ≤ least) × (most ≤ most_fields)
AreSomeRead _ least most = Unit {0}

-- an operation that chooses tasks reads a field, and leaves the fields that came
abbrev pub IsChoice : Bool → ℕ → Leaves → Type 0
IsChoice true least leaves = (1 ≤ least) × (leaves ≡ Same)
IsChoice false least leaves = Unit {0}

pub record IsShape (s : Shape) : Type 0 where
  pub read : AreSomeRead s.leaves s.least s.most
  pub choice : IsChoice s.chooses s.least s.leaves

pub shape_fits : (function : Function) → IsShape (shape function)
shape_fits Project = record { read = (lit≤ tt, lit≤ tt); choice = tt }
shape_fits Route = record { read = tt; choice = (lit≤ tt, refl) }
shape_fits _ = record { read = tt; choice = tt }
