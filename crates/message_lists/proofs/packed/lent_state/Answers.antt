use Rattle.std.proofs.Common.{rules, ◌≡◌, ◌∷◌, [], ap, refl}
use Rattle.std.specs.Option.{option_to_list}
use Rattle.std.specs.Prelude.{map}
use Rattle.std.specs.Str.{is_utf8}
use Rattle.std.proofs.lemmas.Str.{is_utf8-from_IsUtf8}
use Rattle.tree_model.specs.Packs.{write_in}
use Rattle.message_lists.specs.Packed.{children_from, done_lent}
use Rattle.message_lists.proofs.Kept.{state_note}
use Rattle.message_lists.proofs.packed.lent_state.Goals as goal

pub returns-clause-note : goal.returns-clause-note
returns-clause-note c =
    let done = c.args.done.now in
    let write = write_in c.args.write.now in
    let writes : map write_in (option_to_list done.write) ≡ write ∷ [] = ap (λ w. map write_in (option_to_list w)) c.requires.write in
    let none : (done_lent done).produced ≡ [] = ap (children_from (done_lent done).consumed.path 0) c.requires.produced in
    state_note _ (done_lent done) done.parent.now done.number write _ c.in_ok-head.ensures.there c.in_ok-at.ensures.piece
    (is_utf8-from_IsUtf8 c.args.write.now.key.now c.requires.text)
    refl refl (search rules) refl writes none
