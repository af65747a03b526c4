use Rattle.std.proofs.Common.{ap, length}
use Rattle.std.specs.Prelude.{List, Bool}
use Rattle.commit_turns.specs.Desks.{first_desk}
use Rattle.record_offers.specs.Offers.{with_gone}
use Rattle.taken_records.proofs.Starting.{marks_by_spans}
use Rattle.commit_order.proofs.office.Office.new.Goals as goal

pub returns : goal.returns
returns c =
    rw (c.start.ensures, c.new.ensures)
    (ap (λ (gone : List Bool). record { topology = c.args.plan.now; cut = with_gone c.args.offers gone; desk = first_desk c.args.offers })
    (marks_by_spans c.args.offers.gone (length c.args.offers.records) c.in_ok-began.began c.left-left.ensures.marks c.in_ok-began.ensures.runs))
