use Rattle.std.proofs.Common.{◌≡◌, drop}
use Rattle.storm_resume.specs.steps.Going.{last_txid}
use Rattle.storm_resume.proofs.text.last_txid.Given as goal

abbrev pub invariant-loop-attempt : goal.invariant-loop-attempt
invariant-loop-attempt l = last_txid l.last (drop l.attempt-index l.fates) ≡ last_txid l.txid l.fates
