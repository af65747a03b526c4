use Rattle.std.proofs.Common.{◌≡◌, ◌++◌, length, option_map}
use Rattle.storm_values.specs.steps.Texts.{texts_from}
use Rattle.storm_values.proofs.lines.texts_of_array.Given as goal

abbrev pub invariant-texts : goal.invariant-texts
invariant-texts l = texts_from l.initial.reader ≡ option_map (λ read. (l.row ++ read.0, read.1)) (texts_from l.reader)

abbrev pub decreases-texts : goal.decreases-texts
decreases-texts l = length l.reader
