use Rattle.std.proofs.Common.{rules, ◌≡◌, Some, ◌++◌, ◌∷◌, [], ap, sym, ◌∙◌}
use Rattle.std.specs.Prelude.{slice_get}
use Rattle.message_lists.proofs.Texts.{taken_more}
use Rattle.message_lists.proofs.packed.Notes.to_messages.Goals as goal

pub loop-at-preserved : goal.loop-at-preserved
loop-at-preserved c =
    let here : slice_get c.args.self.now c.loop-at.at ≡ Some c.in_ok-message.message = search rules in
    let pushed : c.push.new.self ≡ c.loop-at.made ++ c.in_ok-message.message ∷ [] = search rules in
    pushed ∙ ap (λ ms. ms ++ c.in_ok-message.message ∷ []) c.loop-at.invariant
    ∙ sym (taken_more c.args.self.now c.loop-at.at c.in_ok-message.message here)
