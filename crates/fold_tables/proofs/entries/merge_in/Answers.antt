use Rattle.std.proofs.Common.{◌≡◌, Some, None, IsSome, rules, SFits, ap, refl, subst, sym, ◌∙◌}
use Rattle.std.proofs.lemmas.Int.{to_z-of_z}
use Rattle.std.specs.Int.{w128}
use Rattle.std.specs.Option.{option_copied_mut}
use Rattle.std.specs.Str.{bytes_eq}
use Rattle.indexmap.specs.IndexMap.{Updates, get}
use Rattle.fold_tables.specs.Merging.{joined, joined_onto}
use Rattle.fold_tables.proofs.Keyed.{put-updates}
use Rattle.fold_tables.proofs.entries.merge_in.Goals as goal

-- the later value is joined onto the one that was found
pub returns-in-Some : goal.returns-in-Some
returns-in-Some g c =
    let join = joined (g.O.RowOp.meaning c.args.custom.now) c.args.by in
    let fits : SFits w128 c.joined_value.result = search rules in
    let later_fits : SFits w128 c.args.later = c.ranges.later in
    let value_fits : SFits w128 c.in-Some.value.now = search rules in
    let found : get bytes_eq c.args.entries.now c.args.key ≡ Some c.in-Some.value.now =
    sym c.get_mut.ensures.value ∙ ap option_copied_mut c.in-Some.is in
    let value : c.joined_value.result ≡ join c.in-Some.value.now c.args.later = rw (to_z-of_z, to_z-of_z) at c.joined_value.ensures in
    let through = c.get_mut.follows.holds c.joined_value.result in
    let there : IsSome (get bytes_eq c.args.entries.now c.args.key) = subst IsSome (sym found) refl in
    rw to_z-of_z
    (put-updates c.args.entries.now (c.get_mut.follows.lender c.joined_value.result) (λ old. joined_onto join old c.args.later) c.args.key (Some c.in-Some.value.now) c.joined_value.result found value (through.3 there))

-- the key is new
pub returns-in_ok-insert-in-None : goal.returns-in_ok-insert-in-None
returns-in_ok-insert-in-None g c =
    let join = joined (g.O.RowOp.meaning c.args.custom.now) c.args.by in
    let later_fits : SFits w128 c.args.later = c.ranges.later in
    let none : get bytes_eq c.args.entries.now c.args.key ≡ None =
    sym c.get_mut.ensures.value ∙ ap option_copied_mut c.in-None.is in
    let stays : c.get_mut.follows.lender-at-none ≡ c.args.entries.now = c.get_mut.follows.holds-at-none in
    let made : Updates bytes_eq c.args.entries.now c.insert.new.self c.args.key (Some c.args.later) = rw (to_z-of_z, stays) at c.in_ok-insert-in-None.ensures.updates in
    put-updates c.args.entries.now c.insert.new.self (λ old. joined_onto join old c.args.later) c.args.key None c.args.later none refl made
