use Rattle.std.proofs.Common.{ℕ, List, ap, sym, subst, ◌∙◌}
use Rattle.std.specs.Str.{IsUtf8}
use Rattle.message_lists.specs.Packed.{piece}
use Rattle.message_lists.proofs.Texts.{text_at}
use Rattle.message_lists.proofs.packed.Notes.get.Goals as goal

pub returns-in-State-clause-text : goal.returns-in-State-clause-text
returns-in-State-clause-text c =
    let s = c.index-short.result.now in
    subst IsUtf8 (sym (c.piece_of-in-State-2.ensures ∙ ap (λ (ks : List ℕ). piece ks s.at s.len) c.deref-in-State-2.ensures.value))
    (text_at c.self.inside.stock c.self.inside.shorts.items c.args.self.now c.args.at s c.index-head.result.now c.in-State.state c.in-State.part c.self.invariant c.self.view_is c.requires
    c.index-short.ensures c.index-head.ensures c.in-State.is)
