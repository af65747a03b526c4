use Rattle.std.proofs.Common.{SFits, rules, refl}
use Rattle.std.specs.Int.{w128}
use Rattle.std.proofs.lemmas.Int.{to_z-of_z}
use Rattle.cell_format.specs.Layout.{number_bytes}
use Rattle.cell_format.proofs.codec.number.Goals as goal

pub returns-in-Some : goal.returns-in-Some
unfolding number_bytes
returns-in-Some c =
    let fits : SFits w128 c.in-Some.number = search rules in
    rw c.in-Some.is (rw to_z-of_z at c.to_be_bytes.ensures)

pub returns-in-None : goal.returns-in-None
unfolding number_bytes
returns-in-None c = rw c.in-None.is refl
