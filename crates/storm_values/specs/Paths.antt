-- The numbers of a path, wherever they lie.
use Rattle.std.specs.Prelude.{ℕ, List}
use Rattle.storm_values.specs.declared.path.Numbers.{Numbers}
use Rattle.storm_values.specs.declared.path.Numbers.TheVariants.{Inside, Apart}

abbrev pub numbers_in : Numbers → List ℕ
numbers_in (Inside short) = short
numbers_in (Apart long) = long.value.items
