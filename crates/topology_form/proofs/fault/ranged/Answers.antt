use Rattle.std.proofs.Common.{◌≡◌, append_assoc, to_z, of_z, w64, rules, ◌∙◌}
use Rattle.std.proofs.lemmas.Result.{IfOk-weaker}
use Rattle.topology_form.proofs.fault.ranged.Goals as goal

pub returns : goal.returns
returns c =
    let number : to_z w64 (of_z w64 c.args.found) ≡ c.args.found = search rules in
    IfOk-weaker c.format.result _ _ (λ made is. is ∙ rw (number, c.in_ok-name.ensures) (simp append_assoc)) c.format.ensures.ok
