use Rattle.std.proofs.Common.{sym, arith}
use Rattle.record_spans.specs.Spans.{records_of}
use Rattle.record_offers.specs.Offers.{is_gone}
use Rattle.record_offers.proofs.OfferLemmas.{next_left, next_taken}
use Rattle.record_offers.proofs.marks.gone_runs.Goals.{then-is_gone+in_ok-push_record, else-is_gone}
use Rattle.record_offers.proofs.marks.gone_runs.Goals as goal

pub loop-at-preserved : goal.loop-at-preserved
loop-at-preserved c =
    let p = is_gone c.args.gone.now in
    let inv = c.loop-at.invariant in
    elim c.if-is_gone.branch [
      | then-is_gone+in_ok-push_record w ↦
          let pushed = w.in_ok-push_record.ensures in
          record {
            apart = rw w.spans-is pushed.apart;
            end = rw (w.spans-is, pushed.end) (omega arith);
            records = rw w.spans-is (next_taken p c.loop-at.at (records_of c.loop-at.spans.items) (records_of w.push_record.new.spans.items) inv.records (sym w.if-is_gone.ensures) pushed.records);
          }
      | else-is_gone w ↦
          let end = inv.end in
          record {
            apart = rw w.spans-is inv.apart;
            end = rw w.spans-is (omega (arith, end));
            records = rw w.spans-is (next_left p c.loop-at.at (records_of c.loop-at.spans.items) inv.records (sym w.if-is_gone.ensures));
          }
    ]
