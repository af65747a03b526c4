-- The bytes of a text, wherever they lie.
use Rattle.std.specs.Prelude.{ℕ, List, string_bytes}
use Rattle.storm_values.specs.declared.text.Place.{Place}
use Rattle.storm_values.specs.declared.text.Place.TheVariants.{Inside, Apart}

abbrev pub bytes_in : Place → List ℕ
bytes_in (Inside text) = text
bytes_in (Apart text) = string_bytes text
