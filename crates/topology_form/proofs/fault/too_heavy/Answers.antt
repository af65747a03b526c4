use Rattle.std.proofs.Common.{append_assoc, ◌∙◌}
use Rattle.std.proofs.lemmas.Result.{IfOk-weaker}
use Rattle.topology_form.proofs.fault.too_heavy.Goals as goal

pub returns : goal.returns
returns c = IfOk-weaker c.format.result _ _ (λ made is. is ∙ simp append_assoc) c.format.ensures.ok
