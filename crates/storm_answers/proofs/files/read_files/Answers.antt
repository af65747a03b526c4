use Rattle.std.proofs.Common.{refl}
use Rattle.storm_answers.proofs.EndLemmas.{IfErr-exit, Stops-weaker}
use Rattle.storm_answers.proofs.FileLemmas.{two_fetches, files_of_input}
use Rattle.storm_answers.proofs.files.read_files.Goals as goal

pub returns-in_err-rows-clause-stop : goal.returns-in_err-rows-clause-stop
returns-in_err-rows-clause-stop g c =
    let twice = two_fetches _ _ _ c.in_ok-plan.ensures.fetches c.in_err-rows.ensures.fetches in
    IfErr-exit c.from_residual-in_err-rows.result _ _ c.from_residual-in_err-rows.ensures.1 (
    Stops-weaker _ _ c.in_err-rows.field-0.0
    (λ s text. files_of_input _ _ c.in_ok-plan.ensures.files _ _ _ s text c.in_ok-plan.ensures.plan twice c.in_ok-plan.ensures.stays_ready c.in_ok-plan.ensures.never_falls refl)
    c.in_err-rows.ensures.stop)
