use Rattle.std.proofs.Common.{◌≡◌, Some, None, IsSome, rules, SFits, ap, refl, subst, sym, ◌∙◌}
use Rattle.std.proofs.lemmas.Int.{to_z-of_z}
use Rattle.std.specs.Int.{w64, w128}
use Rattle.std.specs.Option.{option_copied_mut}
use Rattle.std.specs.Str.{bytes_eq}
use Rattle.indexmap.specs.IndexMap.{Updates, get}
use Rattle.tree_model.specs.Tables.{folded}
use Rattle.fold_tables.proofs.Keyed.{put-updates}
use Rattle.fold_tables.proofs.entries.fold_in.Goals as goal

-- the value that was found is the one that is written
pub returns-in-Some : goal.returns-in-Some
returns-in-Some g c =
    let by = folded (g.O.RowOp.meaning c.args.custom.now) c.args.by in
    let fits : SFits w128 c.fold_amount.result = search rules in
    let amount_fits : SFits w64 c.args.amount = c.ranges.amount in
    let value_fits : SFits w128 c.in-Some.value.now = search rules in
    let found : get bytes_eq c.args.entries.now c.args.key ≡ Some c.in-Some.value.now =
    sym c.get_mut.ensures.value ∙ ap option_copied_mut c.in-Some.is in
    let value : c.fold_amount.result ≡ by (Some c.in-Some.value.now) c.args.amount = rw (to_z-of_z, to_z-of_z) at c.fold_amount.ensures in
    let through = c.get_mut.follows.holds c.fold_amount.result in
    let there : IsSome (get bytes_eq c.args.entries.now c.args.key) = subst IsSome (sym found) refl in
    rw to_z-of_z
    (put-updates c.args.entries.now (c.get_mut.follows.lender c.fold_amount.result) (λ old. by old c.args.amount) c.args.key (Some c.in-Some.value.now) c.fold_amount.result found value (through.3 there))

-- the key is new
pub returns-in_ok-insert-in-None : goal.returns-in_ok-insert-in-None
returns-in_ok-insert-in-None g c =
    let by = folded (g.O.RowOp.meaning c.args.custom.now) c.args.by in
    let fits : SFits w128 c.fold_amount-in-None.result = search rules in
    let amount_fits : SFits w64 c.args.amount = c.ranges.amount in
    let none : get bytes_eq c.args.entries.now c.args.key ≡ None =
    sym c.get_mut.ensures.value ∙ ap option_copied_mut c.in-None.is in
    let value : c.fold_amount-in-None.result ≡ by None c.args.amount = rw to_z-of_z at c.fold_amount-in-None.ensures in
    let stays : c.get_mut.follows.lender-at-none ≡ c.args.entries.now = c.get_mut.follows.holds-at-none in
    let made : Updates bytes_eq c.args.entries.now c.insert.new.self c.args.key (Some c.fold_amount-in-None.result) = rw (to_z-of_z, stays) at c.in_ok-insert-in-None.ensures.updates in
    put-updates c.args.entries.now c.insert.new.self (λ old. by old c.args.amount) c.args.key None c.fold_amount-in-None.result none value made
