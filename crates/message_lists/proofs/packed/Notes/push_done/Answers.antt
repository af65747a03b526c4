use Rattle.std.proofs.Common.{rules, ◌≡◌, [], ◌∷◌, ◌++◌, ap, subst, sym, ◌∙◌}
use Rattle.tree_model.specs.declared.messages.AckMsg.TheVariants as msg
use Rattle.message_lists.specs.Packed.{AreThere, done_lent, notes_of}
use Rattle.message_lists.proofs.Kept.{kept_notes, kept_there, more_notes, more_there}
use Rattle.message_lists.proofs.packed.Notes.push_done.Goals as goal

pub invariant_of-self : goal.invariant_of-self
invariant_of-self c =
    kept_there c.self.inside.stock c.lent_short.new.stock c.self.inside.shorts.items c.lent_short.ensures.grows c.self.invariant

pub returns-in_err-short-clause-err : goal.returns-in_err-short-clause-err
returns-in_err-short-clause-err c =
    let same = kept_notes c.self.inside.stock c.lent_short.new.stock c.self.inside.shorts.items c.lent_short.ensures.grows c.self.invariant ∙ c.self.view_is in
    search rules

pub invariant_of-self-in_err-push : goal.invariant_of-self-in_err-push
invariant_of-self-in_err-push c =
    let same : c.push.new.self.items ≡ c.self.inside.shorts.items = search rules in
    subst (AreThere c.lent_short.new.stock) (sym same) (kept_there c.self.inside.stock c.lent_short.new.stock c.self.inside.shorts.items c.lent_short.ensures.grows c.self.invariant)

pub returns-in_err-push-clause-err : goal.returns-in_err-push-clause-err
returns-in_err-push-clause-err c =
    let same : c.push.new.self.items ≡ c.self.inside.shorts.items = search rules in
    let kept = ap (notes_of c.lent_short.new.stock) same ∙ kept_notes c.self.inside.stock c.lent_short.new.stock c.self.inside.shorts.items c.lent_short.ensures.grows c.self.invariant ∙ c.self.view_is in
    search rules

pub invariant_of-self-2 : goal.invariant_of-self-2
invariant_of-self-2 c =
    let more : c.push.new.self.items ≡ c.self.inside.shorts.items ++ c.in_ok-short.short ∷ [] = search rules in
    subst (AreThere c.lent_short.new.stock) (sym more) (more_there c.self.inside.stock c.lent_short.new.stock c.self.inside.shorts.items c.in_ok-short.short (msg.Done (done_lent c.args.done.now)) c.lent_short.ensures.grows c.self.invariant c.in_ok-short.ensures.note)

pub returns-clause-ok : goal.returns-clause-ok
returns-clause-ok c =
    let more : c.push.new.self.items ≡ c.self.inside.shorts.items ++ c.in_ok-short.short ∷ [] = search rules in
    ap (notes_of c.lent_short.new.stock) more
    ∙ more_notes c.self.inside.stock c.lent_short.new.stock c.self.inside.shorts.items c.in_ok-short.short (msg.Done (done_lent c.args.done.now)) c.lent_short.ensures.grows c.self.invariant c.in_ok-short.ensures.note
    ∙ ap (λ ns. ns ++ (msg.Done (done_lent c.args.done.now)) ∷ []) c.self.view_is
