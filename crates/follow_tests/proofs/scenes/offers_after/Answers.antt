use Rattle.std.proofs.Common.{refl, sym, subst, arith}
use Rattle.event_worlds.specs.Accounted.{IsInput}
use Rattle.follow_tests.proofs.scenes.offers_after.Goals as goal

pub returns-clause-input : goal.returns-clause-input
returns-clause-input c =
    subst (λ cut. IsInput c.args.plan.now cut) (sym c.in_ok-after.ensures.same)
    (record {
      valid = c.facts.ensures.valid;
      wired = c.facts.ensures.wired;
      size = c.batch-size.ensures.value;
      partitions = c.partitions-partitions.ensures.value;
      start = c.possible_starts_are_starts.ensures.after c.in_ok-rows.rows c.batch-size.result
          c.partitions-partitions.result c.args.txid c.args.gone.now c.in_ok-after.field-0.gone
          c.batch-size.ensures.some (grind arith)
          (rw (← c.len-records.ensures, ← c.as_slice.ensures) (c.if-not-possible.ensures.0 refl))
          c.in_ok-after.ensures.gone;
      rows = c.in_ok-rows.ensures;
    })
