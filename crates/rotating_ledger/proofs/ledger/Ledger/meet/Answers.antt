use Rattle.std.proofs.Common.{◌≡◌, true, sym, ap, ◌∙◌}
use Rattle.rotating_ledger.specs.Told.{tells, told, merged}
use Rattle.rotating_ledger.proofs.HeldLemmas.{without-with, with_held, taken_out}
use Rattle.rotating_ledger.proofs.LedgerLemmas.{met-present}
use Rattle.rotating_ledger.proofs.SlotLemmas.{same_some}
use Rattle.rotating_ledger.proofs.ledger.Ledger.meet.Goals as goal

pub returns-then-tells-clause-met : goal.returns-then-tells-clause-met
returns-then-tells-clause-met c =
    let present = c.in-Some.ensures.present in
    let told_is : c.in-Some.told ≡ told (merged present.0 c.args.message) = same_some _ _ present.3 in
    let tells_is : tells (told (merged present.0 c.args.message)) ≡ true = ap tells (sym told_is) ∙ sym c.tells.ensures ∙ c.if-tells.true in
    rw (← c.self.view_is)
    (c.take.ensures.others
    ∙ ap (taken_out c.args.root) present.2
    ∙ ap (with_held c.self.inside.states)
    (without-with c.args.root (merged present.0 c.args.message) c.self.inside.states.held
    ∙ sym (met-present c.args.root c.args.message present.0 c.self.inside.states.held true present.1 tells_is)))
