use Rattle.std.proofs.Common.{◌≡◌, true, false, List, refl, sym, ap, ◌∙◌}
use Rattle.std.specs.Prelude.{option_and_then}
use Rattle.rotating_ledger.specs.Held.{Rotation, value_of}
use Rattle.rotating_ledger.specs.Told.{tells, told}
use Rattle.rotating_ledger.proofs.HeldLemmas.{with_held, taken_out}
use Rattle.tree_model.specs.declared.messages.AckMsg.{AckMsg}
use Rattle.tree_model.specs.declared.messages.AckMsg.TheVariants as msg
use Rattle.message_lists.specs.Packed.{done_lent}
use Rattle.acker_core.specs.Entries.{tell}
use Rattle.acker_core.specs.States.{state_of}
use Rattle.acker_core.proofs.StepLemmas.{list_at, told-gone, met-gone, silent-kept, silent-gone}
use Rattle.acker_core.proofs.acker.Acker.step_done.Goals as goal

pub invariant_of-self-then-tells : goal.invariant_of-self-then-tells
invariant_of-self-then-tells c =
    rw (c.take_verdict-verdict.ensures.others, c.in_ok-told.ensures.entered)
    (silent-gone (msg.Done (done_lent c.args.done.now)) c.self.inside.entries.held c.args.done.now.root c.self.invariant)

pub returns-then-tells-clause-told : goal.returns-then-tells-clause-told
returns-then-tells-clause-told c =
    rw (← c.self.view_is)
    (c.take_verdict-verdict.ensures.told
    ∙ ap (λ (s : Rotation (List AckMsg)). option_and_then (tell c.args.done.now.root) (value_of c.args.done.now.root s.held)) c.in_ok-told.ensures.entered
    ∙ told-gone (msg.Done (done_lent c.args.done.now)) c.self.inside.entries.held c.args.done.now.root refl)

pub returns-then-tells-clause-met : goal.returns-then-tells-clause-met
returns-then-tells-clause-met c =
    let tells_is : tells (told (state_of (list_at (msg.Done (done_lent c.args.done.now)) c.self.inside.entries.held c.args.done.now.root))) ≡ true =
    ap tells (sym c.in_ok-told.ensures.told) ∙ sym c.tells.ensures ∙ c.if-tells.true
    in
    rw (← c.self.view_is)
    (c.take_verdict-verdict.ensures.others
    ∙ ap (taken_out c.args.done.now.root) c.in_ok-told.ensures.entered
    ∙ ap (with_held c.self.inside.entries)
    (met-gone (msg.Done (done_lent c.args.done.now)) c.self.inside.entries.held c.args.done.now.root refl tells_is))

pub invariant_of-self-else-tells : goal.invariant_of-self-else-tells
invariant_of-self-else-tells c =
    let tells_is : tells (told (state_of (list_at (msg.Done (done_lent c.args.done.now)) c.self.inside.entries.held c.args.done.now.root))) ≡ false =
    ap tells (sym c.in_ok-told.ensures.told) ∙ sym c.tells.ensures ∙ c.if-tells.false
    in
    rw c.in_ok-told.ensures.entered
    (silent-kept (msg.Done (done_lent c.args.done.now)) c.self.inside.entries.held c.args.done.now.root c.self.invariant tells_is)
