use Rattle.std.proofs.Common.{sym, ap, ◌∙◌}
use Rattle.rotating_ledger.specs.Held.{with_value}
use Rattle.rotating_ledger.proofs.HeldLemmas.{with_held}
use Rattle.acker_core.proofs.StepLemmas.{with-same, on_any}
use Rattle.acker_core.proofs.acker.add_done.Goals as goal

pub returns-in_err-add_done-in-Some-clause-err : goal.returns-in_err-add_done-in-Some-clause-err
returns-in_err-add_done-in-Some-clause-err c =
    on_any c.from_residual.result
    (ap (with_held c.args.entries.now)
    (ap (with_value c.args.done.now.root c.args.entries.now.held) c.in_err-add_done-in-Some.ensures.err
    ∙ with-same c.args.done.now.root c.in-Some.entry.now c.args.entries.now.held (sym c.in-Some.ensures.value)))
