use Rattle.std.proofs.Common.{rules, ◌≡◌, [], ap, subst, sym, ◌∙◌, refl}
use Rattle.std.specs.Str.{is_utf8}
use Rattle.std.proofs.lemmas.Str.{is_utf8-from_IsUtf8}
use Rattle.message_lists.specs.Packed.{IsPiece}
use Rattle.message_lists.proofs.Kept.{state_note}
use Rattle.message_lists.proofs.packed.state_short.Goals as goal

pub returns-clause-note : goal.returns-clause-note
returns-clause-note c =
    let same : c.args.write.now.key ≡ c.as_bytes.result.now = search rules in
    let none : c.args.done.now.produced ≡ [] = search rules in
    state_note _ c.args.done.now c.args.parent.now c.args.number c.args.write.now _ c.in_ok-head.ensures.there
    (subst (IsPiece c.add_piece.new.into.items c.in_ok-at.at c.in_ok-at.len) (sym same) c.in_ok-at.ensures.piece)
    (ap is_utf8 same ∙ is_utf8-from_IsUtf8 c.as_bytes.result.now (search rules))
    refl refl (search rules) c.requires.path c.requires.writes none
