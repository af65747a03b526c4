-- Roots are told apart by transaction and attempt.
use Rattle.std.specs.Prelude.{Bool, ◌==◌, ◌&&◌}
use Rattle.storm_values.specs.declared.value.Root.{Root}

abbrev pub root_eq : Root → Root → Bool
root_eq a b = (a.txid == b.txid) && (a.attempt == b.attempt)
