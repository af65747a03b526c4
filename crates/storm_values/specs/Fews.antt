-- The items of a list of few, wherever they lie.
use Rattle.std.specs.Prelude.{List, []}
use Rattle.storm_values.specs.declared.few.Places.{Places}
use Rattle.storm_values.specs.declared.few.Places.TheVariants.{Empty, One, Many}

abbrev pub items_in : {E : Type 0} → Places E → List E
items_in Empty = []
items_in (One item) = item
items_in (Many items) = items.items
