use Rattle.std.proofs.Common.{ap, rules, tests, ◌∙◌, sym, unwrap_or}
use Rattle.topology_reader.proofs.Common.{YieldsList-from_slice, bytes_eq}
use Rattle.std.proofs.lemmas.Iterator.Search.{position_from_yields_List}
use Rattle.topology_reader.proofs.planned.number_of.Goals as goal

pub returns-in-Some : goal.returns-in-Some
returns-in-Some c =
    ap (λ place. unwrap_or place 0)
    (sym c.in-Some.is
    ∙ position_from_yields_List (λ field. bytes_eq field c.args.name.now) _ _ c.position.result c.position.ensures.ran (YieldsList-from_slice c.args.fields.now cc) (λ x b q k. search (rules, tests)))

pub returns-in-None : goal.returns-in-None
returns-in-None c =
    ap (λ place. unwrap_or place 0)
    (sym c.in-None.is
    ∙ position_from_yields_List (λ field. bytes_eq field c.args.name.now) _ _ c.position.result c.position.ensures.ran (YieldsList-from_slice c.args.fields.now cc) (λ x b q k. search (rules, tests)))
