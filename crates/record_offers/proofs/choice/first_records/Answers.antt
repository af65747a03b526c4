use Rattle.std.proofs.Common.{◌≡◌, ◌+◌, ◌≤◌, inl, inr, [], ◌∷◌, length, refl, ap, sym, subst, ◌∙◌, arith}
use Rattle.std.specs.List.{filter, range_with_len}
use Rattle.std.proofs.lemmas.List.{length-append}
use Rattle.record_spans.specs.Spans.{records_of}
use Rattle.record_offers.specs.Offers.{free_records, is_free}
use Rattle.record_offers.proofs.OfferLemmas.{next_left, next_taken, offer_end, offer_start}
use Rattle.record_offers.proofs.choice.first_records.Goals.{then-may_offer+in_ok-push_record, else-may_offer, then-loop-at-test+else-count-size, else-loop-at-test}
use Rattle.record_offers.proofs.choice.first_records.Goals as goal

pub loop-at-init : goal.loop-at-init
loop-at-init c =
    let empty = c.new-spans.ensures.items in
    let none = offer_start (length c.args.low.now) c.args.shut c.least_open-at.result c.args.low.now c.args.gone.now refl c.requires.some c.least_open-at.ensures.within c.least_open-at.ensures.least c.requires.low in
    record {
      within = c.least_open-at.ensures.within;
      apart = rw empty tt;
      end = rw empty (omega arith);
      records = rw empty (sym none);
      count = rw empty refl;
      few = omega arith;
    }

pub loop-at-preserved : goal.loop-at-preserved
loop-at-preserved c =
    let p = is_free (length c.args.low.now) c.args.shut c.args.gone.now in
    let inv = c.loop-at.invariant in
    elim c.if-may_offer.branch [
      | then-may_offer+in_ok-push_record w ↦
          let at = c.loop-at.at in
          let pushed = w.in_ok-push_record.ensures in
          let more : length (records_of w.push_record.new.spans.items) ≡ length (records_of c.loop-at.spans.items) + 1 =
          ap length pushed.records ∙ length-append (records_of c.loop-at.spans.items) ((at + 1) ∷ []) in
          let test = c.loop-at-test.true in
          let room = c.if-count-size.true in
          let counted = w.count-is in
          let was = inv.count in
          record {
            within = omega (arith, test);
            apart = rw w.spans-is pushed.apart;
            end = rw (w.spans-is, pushed.end) (omega arith);
            records = rw w.spans-is (next_taken p at (records_of c.loop-at.spans.items) (records_of w.push_record.new.spans.items) inv.records (sym w.if-may_offer.ensures) pushed.records);
            count = rw w.spans-is (omega (arith, more, counted, was));
            few = omega (arith, counted, room);
          }
      | else-may_offer w ↦
          let test = c.loop-at-test.true in
          let few = inv.few in
          let end = inv.end in
          record {
            within = omega (arith, test);
            apart = rw w.spans-is inv.apart;
            end = rw w.spans-is (omega (arith, end));
            records = rw w.spans-is (next_left p c.loop-at.at (records_of c.loop-at.spans.items) inv.records (sym w.if-may_offer.ensures));
            count = rw (w.spans-is, w.count-is) inv.count;
            few = rw w.count-is few;
          }
    ]

pub returns : goal.returns
unfolding free_records
returns c =
    let p = is_free (length c.args.low.now) c.args.shut c.args.gone.now in
    let inv = c.loop-at.invariant in
    let few : length (filter p (range_with_len 1 c.loop-at.at)) ≤ c.args.size = subst (λ ns. length ns ≤ c.args.size) inv.records (omega arith) in
    let count : c.loop-at.count ≡ length (filter p (range_with_len 1 c.loop-at.at)) = inv.count ∙ ap length inv.records in
    let end = inv.end in
    let within = inv.within in
    record {
      runs = record {
        apart = inv.apart;
        records = inv.records ∙ sym (offer_end p c.args.size c.loop-at.at (length c.args.gone.now) inv.within few
            (elim c.loop-at-test.branch [
              | then-loop-at-test+else-count-size w ↦ inr (omega (arith, count, w.if-count-size.false))
              | else-loop-at-test w ↦ inl (omega (arith, w.loop-at-test.false))
            ]));
      };
      within = omega (arith, end, within);
    }
