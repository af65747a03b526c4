use Rattle.std.proofs.Common.{ap, ◌∙◌}
use Rattle.std.specs.FinMap as fin_map
use Rattle.replay_pending.specs.declared.attempts.Tried.{Tried}
use Rattle.replay_pending.specs.InFlight.{Tries}
use Rattle.replay_pending.proofs.CountLemmas.{counts-insert}
use Rattle.replay_pending.proofs.attempts.Tries.begin.Goals as goal
use Rattle.replay_pending.proofs.attempts.Tries.begin.Goals.{in-Ok, in-Err}

pub returns-clause-ok : goal.returns-clause-ok
returns-clause-ok c =
    elim c.match-insert.branch [
      | in-Ok w ↦
          rw w.result-is
          (counts-insert c.self.inside.counts.entries c.insert.new.self.entries c.args.txid (record { begun = c.args.number; aborted = c.tried.result.aborted })
          (λ q. w.in-Ok.ensures.updates.0 q)
          ∙ ap (λ (m : Tries). fin_map.insert m c.args.txid (record { begun = c.args.number; aborted = c.tried.result.aborted })) c.self.view_is
          ∙ ap (λ (t : Tried). fin_map.insert c.args.self.now c.args.txid (record { begun = c.args.number; aborted = t.aborted })) c.tried.ensures)
      | in-Err w ↦ rw w.result-is tt
    ]
