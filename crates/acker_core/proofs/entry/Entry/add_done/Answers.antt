use Rattle.std.proofs.Common.{sym, ap, ◌∙◌}
use Rattle.tree_model.specs.declared.messages.AckMsg.TheVariants as msg
use Rattle.message_lists.specs.Packed.{done_lent}
use Rattle.rotating_ledger.specs.Told.{merged}
use Rattle.acker_core.specs.States.{state_of}
use Rattle.acker_core.proofs.StateLemmas.{state-push}
use Rattle.acker_core.proofs.entry.Entry.add_done.Goals as goal

pub invariant_of-self-2 : goal.invariant_of-self-2
invariant_of-self-2 c =
    rw c.in_ok-push_done.ensures.ok
    (c.merge.ensures
    ∙ ap (λ s. merged s c.done_state-state.result) c.self.invariant
    ∙ ap (merged (state_of c.self.inside.list)) c.done_state-state.ensures
    ∙ sym (state-push c.self.inside.list (msg.Done (done_lent c.args.done.now))))
