use Rattle.std.proofs.Common.{rules, ◌≡◌, ◌≢◌, ◌≤◌, ◌<◌, ◌+◌, ◌-◌, ◌*◌, ◌^◌, ℕ, zero, suc, bit_xor, Bool, true, false, true≢false, List, [], ◌∷◌, ◌++◌, map, take, drop, get_or, set, length, replicate, Option, Some, None, All, sym, refl, ap, subst, ◌∙◌, arith}
use Rattle.std.proofs.lemmas.Result.{IfOk-weaker}
use Rattle.shared_ledger.specs.Seats.{book_of}
use Rattle.track_window.specs.Noted.{IsJudged}
use Rattle.track_window.proofs.Judging.{judged_word, judged_closed}
use Rattle.track_window.proofs.judge.is_acked.Goals as goal

pub returns-then-state-ne0-clause-judged : goal.returns-then-state-ne0-clause-judged
returns-then-state-ne0-clause-judged c =
    judged_word c.args.number (book_of c.args.seat.now) c.args.list.now (c.words_of_notes.ensures.words c.args.number (book_of c.args.seat.now) c.args.list.now c.requires.held) (c.words_of_notes.ensures.fails c.args.number (book_of c.args.seat.now) c.args.list.now c.requires.held)
    c.state-state.result.word (c.state-state.ensures.word c.requires.whole) c.state-state.result.failed (c.state-state.ensures.failed c.requires.whole) (search rules)

pub returns-clause-judged : goal.returns-clause-judged
returns-clause-judged c =
    let zero_word : c.state-state.result.word ≡ 0 = search rules in
    let not_failed : c.state-state.result.failed ≡ false = search rules in
    IfOk-weaker c.is_closed.result _ (IsJudged c.args.list.now)
    (judged_closed c.args.number (book_of c.args.seat.now) c.args.list.now (c.words_of_notes.ensures.words c.args.number (book_of c.args.seat.now) c.args.list.now c.requires.held) (c.words_of_notes.ensures.fails c.args.number (book_of c.args.seat.now) c.args.list.now c.requires.held)
    c.state-state.result.word (c.state-state.ensures.word c.requires.whole) c.state-state.result.failed (c.state-state.ensures.failed c.requires.whole) zero_word not_failed) c.is_closed.ensures
