use Rattle.storm_resume.proofs.storm_answers.EndLemmas.{IfErr-exit, Stops-weaker}
use Rattle.storm_program.proofs.RunLemmas.{plain_of_files}
use Rattle.storm_program.proofs.plain.plain_files.Goals as goal

pub returns-in_err-files-clause-stop : goal.returns-in_err-files-clause-stop
returns-in_err-files-clause-stop g c =
    IfErr-exit c.from_residual.result _ _ c.from_residual.ensures.1 (
    Stops-weaker _ _ c.in_err-files.field-0.0 (plain_of_files _ _ _ _) c.in_err-files.ensures.stop)
