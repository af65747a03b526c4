use Rattle.std.proofs.Common.{◌≡◌, Some, None, rules, SFits, ap, sym, ◌∙◌}
use Rattle.std.proofs.lemmas.Int.{to_z-of_z}
use Rattle.std.specs.Int.{w64, w128}
use Rattle.std.specs.Map.{set_value}
use Rattle.std.specs.Option.{option_copied_mut}
use Rattle.std.specs.Str.{bytes_eq}
use Rattle.indexmap.specs.IndexMap.{get, insert_entry}
use Rattle.tree_model.specs.Tables.{folded}
use Rattle.tree_model.proofs.Maps.{pairs-set, pairs-new}
use Rattle.tree_model.proofs.running.put.Goals as goal

-- the value that was found is the one that is written
pub returns-in-Some-clause-ok : goal.returns-in-Some-clause-ok
returns-in-Some-clause-ok g c =
    let by = folded (g.F.Folds.meaning c.args.folds.now) c.args.by in
    let fits : SFits w128 c.fold.result = search rules in
    let amount_fits : SFits w64 c.args.amount = c.ranges.amount in
    let value_fits : SFits w128 c.in-Some.value.now = search rules in
    let found : get bytes_eq c.args.entries.now c.args.key.now ≡ Some c.in-Some.value.now =
    sym c.get_mut.ensures.value ∙ ap option_copied_mut c.in-Some.is in
    let value : c.fold.result ≡ by (Some c.in-Some.value.now) c.args.amount = rw (to_z-of_z, to_z-of_z) at c.fold.ensures in
    let through = c.get_mut.follows.holds c.fold.result in
    let set = through.0 ∙ ap (set_value (bytes_eq c.args.key.now) c.args.entries.now.entries) value in
    rw to_z-of_z
    (pairs-set c.args.entries.now (c.get_mut.follows.lender c.fold.result) by c.args.key.now c.args.amount c.in-Some.value.now found set)

-- the key is new
pub returns-in_ok-insert-in-None-clause-ok : goal.returns-in_ok-insert-in-None-clause-ok
returns-in_ok-insert-in-None-clause-ok g c =
    let by = folded (g.F.Folds.meaning c.args.folds.now) c.args.by in
    let fits : SFits w128 c.fold-in-None.result = search rules in
    let amount_fits : SFits w64 c.args.amount = c.ranges.amount in
    let none : get bytes_eq c.args.entries.now c.args.key.now ≡ None =
    sym c.get_mut.ensures.value ∙ ap option_copied_mut c.in-None.is in
    let value : c.fold-in-None.result ≡ by None c.args.amount = rw to_z-of_z at c.fold-in-None.ensures in
    let stays : c.get_mut.follows.lender-at-none ≡ c.args.entries.now = c.get_mut.follows.holds-at-none in
    let written = rw to_z-of_z at c.in_ok-insert-in-None.ensures.entries in
    let made : c.insert.new.self.entries ≡ insert_entry bytes_eq c.args.entries.now.entries c.args.key.now (by None c.args.amount) = rw (← stays, ← value, ← c.in_ok-copy-in-None.ensures) written in
    pairs-new c.args.entries.now c.insert.new.self by c.args.key.now c.args.amount none made
