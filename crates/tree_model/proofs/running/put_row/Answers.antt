use Rattle.std.proofs.Common.{◌≡◌, SFits, refl, rules}
use Rattle.std.proofs.lemmas.Int.{to_z-of_z}
use Rattle.std.proofs.lemmas.Result.{on_ok_weaker}
use Rattle.std.specs.Int.{w64}
use Rattle.storm_values.specs.Keys.{text_of, quoted}
use Rattle.tree_model.specs.Tables.{folded}
use Rattle.tree_model.specs.Trees.{key_of}
use Rattle.tree_model.proofs.Quoted.{pairs_of-plain}
use Rattle.tree_model.proofs.running.put_row.Goals as goal

pub returns-in-Some : goal.returns-in-Some
returns-in-Some g c =
    let old = c.args.values.now in
    let fits : SFits w64 c.amount-added.result = search rules in
    let key : text_of (key_of c.args.spec.now c.args.row.now) ≡ quoted c.in-Some.text.now = rw (c.as_slice.ensures, c.as_slice-fields.ensures) at c.in-Some.ensures.text in
    on_ok_weaker c.put.result
    (λ puts. rw (← c.amount-added.ensures)
    (pairs_of-plain old (record old { entries = c.put.new.entries }) refl (folded (g.F.Folds.meaning c.args.folds.now) c.args.spec.now.fold) (text_of (key_of c.args.spec.now c.args.row.now)) c.amount-added.result c.in-Some.text.now c.in-Some.ensures.plain key puts))
    (rw to_z-of_z at c.put.ensures.ok)
