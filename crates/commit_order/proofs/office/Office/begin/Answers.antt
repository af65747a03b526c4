use Rattle.std.proofs.Common.{true, ◌∙◌, ap}
use Rattle.commit_order.proofs.Ending.{next_is}
use Rattle.commit_order.proofs.Steps.{begin_step, office_by, waits-txid}
use Rattle.record_offers.specs.Offers.{with_gone}
use Rattle.commit_order.proofs.office.Office.begin.Goals as goal
use Rattle.commit_order.proofs.office.Office.begin.Goals.{in-Ok, in-Err}

pub begin-requires : goal.begin-requires
begin-requires c =
    let f = c.self.inside in
    let asked = rw (← c.self.view_is) at c.requires.next in
    let o = office_by f.plan.now f.began f.offers f.committed f.flight f.out f.exhausted in
    let next = next_is f.plan.now o.cut o.desk c.args.root asked in
    (waits-txid f.flight.pending c.args.root.txid ∙ next.fresh, next.number)

pub returns : goal.returns
returns c =
    let f = c.self.inside in
    let gone = c.take.ensures.same ∙ ap (with_gone f.offers) (c.marks_are_set.ensures.only c.args.spans true f.offers.gone c.take.new.self.gone c.take.ensures.gone) in
    rw (← c.self.view_is)
    (elim c.match-begin.branch [
      | in-Ok w ↦ rw w.result-is (begin_step f.plan.now f.began f.offers f.committed f.flight c.begin.new.self f.out f.exhausted c.args.root c.args.spans c.take.new.self w.in-Ok.ensures.ok gone)
      | in-Err w ↦ rw w.result-is tt
    ])
