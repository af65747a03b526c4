use Rattle.std.proofs.Common.{◌≡◌, ◌-◌, ◌∙◌, arith}
use Rattle.std.specs.Prelude.{min}
use Rattle.event_engine.specs.Seats.{acker_side}
use Rattle.event_engine.proofs.AgedLemmas.{counted_by}
use Rattle.event_engine.proofs.acker.AckerSeat.count_up.Goals as goal

pub returns-clause-side : goal.returns-clause-side
returns-clause-side c =
    let end = c.loop.auto.counter-end in
    let many : c.loop.counter ≡ min (c.args.tick - c.args.self.now.counted) c.args.buckets =
    (let e : c.loop.counter ≡ c.min-ticks.result = let far = c.loop-test.false in omega arith in e) ∙ c.min-ticks.ensures ∙ (λ i. min (c.saturating_sub.ensures i) (c.from.ensures i)) in
    counted_by c.args.buckets c.args.tick c.loop.counter (acker_side c.args.self.now) (acker_side c.loop.self) c.loop.invariant.side many c.requires.some
