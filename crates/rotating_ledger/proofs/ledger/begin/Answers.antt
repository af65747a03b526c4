use Rattle.std.proofs.Common.{◌≡◌, true, None, sym, ap, ◌∙◌}
use Rattle.rotating_ledger.specs.Held.{settled}
use Rattle.rotating_ledger.specs.Told.{tells, told}
use Rattle.rotating_ledger.proofs.HeldLemmas.{without-absent, with_held}
use Rattle.rotating_ledger.proofs.ledger.begin.Goals as goal

pub returns-then-tells-clause-met : goal.returns-then-tells-clause-met
returns-then-tells-clause-met c =
    let tells_is : tells (told c.args.message) ≡ true = ap tells (sym c.told-told.ensures) ∙ sym c.tells.ensures ∙ c.if-tells.true in
    ap (with_held c.args.states.now)
    (sym (ap (settled c.args.root None c.args.message c.args.states.now.held) tells_is ∙ without-absent c.args.root c.args.states.now.held c.requires))
