use Rattle.std.proofs.Common.{◌≡◌, ◌+◌, ◌-◌, suc, sym, ap, ◌∙◌, arith}
use Rattle.commit_order.proofs.Ending.{on_err}
use Rattle.commit_order.proofs.Passing.{passes_more, short_tick}
use Rattle.commit_order.specs.Offices.{Office}
use Rattle.commit_order.proofs.office.Office.pass.Goals as goal

pub returns-in_err-pass_one-clause-err : goal.returns-in_err-pass_one-clause-err
returns-in_err-pass_one-clause-err c =
    let so = c.loop.invariant in
    let more : c.args.ticks - c.loop.counter ≡ suc (c.args.ticks - (c.loop.counter + 1)) = let below = c.loop-test.true in omega arith in
    let topology = ap (λ (o : Office). o.topology) so.office in
    let cut = ap (λ (o : Office). o.cut) so.office in
    on_err c.from_residual.result
    (short_tick c.args.ticks (c.args.ticks - (c.loop.counter + 1)) c.args.self.now c.loop.self.desk c.args.fates.now c.loop.fates c.pass_one.new.fates
    so.ended so.fates (rw more at so.all) (sym c.has_no_tick.ensures ∙ c.if-has_no_tick.false) (rw (topology, cut) at c.in_err-pass_one.ensures.err))

pub loop-preserved : goal.loop-preserved
loop-preserved c =
    let so = c.loop.invariant in
    let more : c.args.ticks - c.loop.counter ≡ suc (c.args.ticks - (c.loop.counter + 1)) = let below = c.loop-test.true in omega arith in
    passes_more c.args.ticks (c.args.ticks - (c.loop.counter + 1)) c.args.self.now c.loop.self c.pass_one.new.self c.args.fates.now c.loop.fates c.pass_one.new.fates
    (rw more at so) (sym c.has_no_tick.ensures ∙ c.if-has_no_tick.false) c.in_ok-pass_one.ensures.ok
