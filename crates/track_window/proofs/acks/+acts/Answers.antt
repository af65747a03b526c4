use Rattle.std.proofs.Common.{rules, ◌≡◌, ◌≢◌, ◌≤◌, ◌<◌, ◌+◌, ◌-◌, ◌*◌, ◌^◌, ℕ, zero, suc, bit_xor, Bool, true, false, true≢false, List, [], ◌∷◌, ◌++◌, map, take, get_or, set, length, replicate, Option, Some, None, All, sym, refl, ap, subst, ◌∙◌, arith}
use Rattle.shared_ledger.specs.Seats.{book_of}
use Rattle.track_window.proofs.Acting.{acted_both}
use Rattle.track_window.proofs.acks.+acts.Goals as goal

pub act_all-returns-clause-acted : goal.act_all-returns-clause-acted
act_all-returns-clause-acted g t c =
    let whole : c.split_at.result.0.now ++ c.split_at.result.1.now ≡ c.args.acts.now = search rules in
    acted_both c.args.acts.now c.split_at.result.0.now c.split_at.result.1.now (book_of c.args.seat.now) (book_of c.split-other.new.seat) (book_of c.split-other.result) (book_of c.act_both.new.seat) (book_of c.act_both.new.other) (book_of c.join.new.into)
    whole c.split-other.ensures.book c.split-other.ensures.new_book c.split-other.ensures.numbered c.act_both.ensures.first c.act_both.ensures.rest c.join.ensures.book c.join.ensures.numbered
