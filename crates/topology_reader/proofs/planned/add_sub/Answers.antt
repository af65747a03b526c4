use Rattle.std.proofs.Common.{◌≡◌, ◌<◌, ◌++◌, [], ◌∷◌, length, set, get_or, sym, ap, ◌∙◌, arith}
use Rattle.topology_reader.proofs.Common.{items_by, place_in}
use Rattle.topology_reader.proofs.SubLemmas.{added_at}
use Rattle.topology_reader.proofs.planned.add_sub.Goals as goal
use Rattle.topology_reader.proofs.planned.add_sub.Goals.{in-Spout, in-Component}

pub returns-in_ok-push : goal.returns-in_ok-push
returns-in_ok-push c =
    let rows = c.args.subs.now.items in
    let below : c.match-from.place < length c.args.subs.now.items = omega (arith, c.args.subs.now.ok.0) in
    let is : c.match-from.place ≡ place_in c.args.from =
    elim c.match-from.branch [ in-Spout w ↦ w.place-is ∙ sym (ap place_in w.in-Spout.is) | in-Component w ↦ w.place-is ∙ sym (ap place_in w.in-Component.is) ]
    in
    added_at rows c.match-from.place c.index_mut.result.now _ c.args.sub below c.index_mut.ensures.value c.in_ok-push.ensures.items
    ∙ ap (λ place. set (items_by rows) place (get_or (items_by rows) place [] ++ c.args.sub ∷ [])) is
