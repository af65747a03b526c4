use Rattle.std.proofs.Common.{◌∙◌, ap, arith}
use Rattle.shared_ledger.specs.Seats.{book_of}
use Rattle.shared_ledger.proofs.Splitting.{joins, joined_some, join_others}
use Rattle.shared_ledger.proofs.Seen.{both_marked}
use Rattle.shared_ledger.proofs.seat.SharedLedger.join.Goals as goal

pub join_seat-requires : goal.join_seat-requires
join_seat-requires c = (c.requires.seat, c.requires.other, c.args.other.no_slot, (let e = c.args.self.now.two_words in let l = c.args.self.now.sized in omega arith), joins _ _ _ _ _ c.args.into.now.some_number)

pub returns-clause-numbered : goal.returns-clause-numbered
returns-clause-numbered c = λ others.
    join_others (book_of c.args.into.now) (book_of c.args.other) c.join_seat.new.seat.me.0 others (ap (λ m. m.0) c.join_seat.ensures.2)

pub invariant_of-into : goal.invariant_of-into
invariant_of-into c =
    let is = ap (λ m. m.0) c.join_seat.ensures.2 in
    record {
      no_slot = ap (λ m. m.1) c.join_seat.ensures.2 ∙ c.args.into.now.no_slot;
      some_number = joined_some (book_of c.args.into.now) (book_of c.args.other) c.join_seat.new.seat.me.0 c.args.into.now.some_number is;
      marked = λ root low.
          both_marked root c.add_all.new.self.words c.args.into.now.seen.words c.args.other.seen.words (book_of c.args.into.now) (book_of c.args.other) c.join_seat.new.seat.me.0
          (c.add_all.ensures root low) (c.args.into.now.marked root low) (c.args.other.marked root low) is;
    }
