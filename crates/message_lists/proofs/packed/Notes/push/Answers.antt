use Rattle.std.proofs.Common.{rules, ◌≡◌, [], ◌∷◌, ◌++◌, ap, subst, sym, ◌∙◌}
use Rattle.message_lists.specs.Packed.{AreThere, notes_of}
use Rattle.message_lists.proofs.Kept.{kept_notes, kept_there, more_notes, more_there}
use Rattle.message_lists.proofs.packed.Notes.push.Goals as goal

pub invariant_of-self : goal.invariant_of-self
invariant_of-self c =
    kept_there c.self.inside.stock c.short_for.new.stock c.self.inside.shorts.items c.short_for.ensures.grows c.self.invariant

pub returns-in_err-short-clause-err : goal.returns-in_err-short-clause-err
returns-in_err-short-clause-err c =
    let same = kept_notes c.self.inside.stock c.short_for.new.stock c.self.inside.shorts.items c.short_for.ensures.grows c.self.invariant ∙ c.self.view_is in
    search rules

pub invariant_of-self-in_err-push : goal.invariant_of-self-in_err-push
invariant_of-self-in_err-push c =
    let same : c.push.new.self.items ≡ c.self.inside.shorts.items = search rules in
    subst (AreThere c.short_for.new.stock) (sym same) (kept_there c.self.inside.stock c.short_for.new.stock c.self.inside.shorts.items c.short_for.ensures.grows c.self.invariant)

pub returns-in_err-push-clause-err : goal.returns-in_err-push-clause-err
returns-in_err-push-clause-err c =
    let same : c.push.new.self.items ≡ c.self.inside.shorts.items = search rules in
    let kept = ap (notes_of c.short_for.new.stock) same ∙ kept_notes c.self.inside.stock c.short_for.new.stock c.self.inside.shorts.items c.short_for.ensures.grows c.self.invariant ∙ c.self.view_is in
    search rules

pub invariant_of-self-2 : goal.invariant_of-self-2
invariant_of-self-2 c =
    let more : c.push.new.self.items ≡ c.self.inside.shorts.items ++ c.in_ok-short.short ∷ [] = search rules in
    subst (AreThere c.short_for.new.stock) (sym more) (more_there c.self.inside.stock c.short_for.new.stock c.self.inside.shorts.items c.in_ok-short.short c.args.message c.short_for.ensures.grows c.self.invariant c.in_ok-short.ensures.note)

pub returns-clause-ok : goal.returns-clause-ok
returns-clause-ok c =
    let more : c.push.new.self.items ≡ c.self.inside.shorts.items ++ c.in_ok-short.short ∷ [] = search rules in
    ap (notes_of c.short_for.new.stock) more
    ∙ more_notes c.self.inside.stock c.short_for.new.stock c.self.inside.shorts.items c.in_ok-short.short c.args.message c.short_for.ensures.grows c.self.invariant c.in_ok-short.ensures.note
    ∙ ap (λ ns. ns ++ c.args.message ∷ []) c.self.view_is
