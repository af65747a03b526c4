use Rattle.std.proofs.Common.{sym, ap, ◌∙◌}
use Rattle.std.specs.Prelude.{unwrap_or}
use Rattle.replay_pending.proofs.CountLemmas.{get-counts}
use Rattle.replay_pending.proofs.attempts.Tries.tried.Goals as goal

pub returns-in-Some : goal.returns-in-Some
returns-in-Some c =
    rw (← c.self.view_is)
    (ap (λ o. unwrap_or o (record { begun = 0; aborted = 0 })) (c.in-Some.ensures.value ∙ sym (get-counts c.self.inside.counts.entries c.args.txid)))

pub returns-in-None : goal.returns-in-None
returns-in-None c =
    rw (← c.self.view_is)
    (ap (λ o. unwrap_or o (record { begun = 0; aborted = 0 })) (c.in-None.ensures.value ∙ sym (get-counts c.self.inside.counts.entries c.args.txid)))
