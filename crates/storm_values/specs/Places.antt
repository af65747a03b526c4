-- Bytes, wherever they lie.
use Rattle.std.specs.Prelude.{ℕ, List}
use Rattle.storm_values.specs.declared.bytes.Place.{Place}
use Rattle.storm_values.specs.declared.bytes.Place.TheVariants.{Inside, Apart}

abbrev pub bytes_at : Place → List ℕ
bytes_at (Inside few) = few
bytes_at (Apart many) = many.items
