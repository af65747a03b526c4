use Rattle.std.proofs.Common.{rules, ◌≡◌, ◌≢◌, ◌≤◌, ◌<◌, ◌+◌, ◌-◌, ◌*◌, ◌^◌, ℕ, zero, suc, bit_xor, Bool, true, false, true≢false, List, [], ◌∷◌, ◌++◌, map, take, drop, get_or, set, length, replicate, Option, Some, None, slice_get, All, sym, refl, ap, subst, ◌∙◌, arith}
use Rattle.std.specs.List.{AllZip}
use Rattle.pass_numbers.specs.Numbers.{IsWhole}
use Rattle.ledger_words.specs.Notes.{HoldsNotes}
use Rattle.shared_ledger.specs.declared.rule.Book.{Book}
use Rattle.shared_ledger.specs.Books.{numbers_in}
use Rattle.shared_ledger.specs.Seats.{book_of, roots_of}
use Rattle.state_tallies.specs.Tallies.{count_of}
use Rattle.tree_model.specs.declared.messages.AckMsg.{AckMsg}
use Rattle.window_account.specs.Stands.{Stands}
use Rattle.window_account.proofs.Ending.{none_left, is_noted, acked_covers, all_acked}
use Rattle.window_account.proofs.Opening.{opened}
use Rattle.track_window.specs.Jobs.{tuples_in}
use Rattle.track_window.specs.Noted.{IsJudged}
use Rattle.track_window.specs.Walks.{IsReady}
use Rattle.track_window.proofs.Windows.{whole_after, zip_at, stands_count, tallied_all, ready_of, held_of}
use Rattle.track_window.proofs.window.track_window.Goals as goal

pub loop-init : goal.loop-init
loop-init g c =
    let t = c.args.plan.now in
    let custom = g.O.RowOp.meaning c.args.custom.now in
    let n : length t.components ≡ length t.components - 0 = omega arith in
    let stands = opened t c.args.attempt custom c.args.rows.now (tuples_in c.begin_all.new.walk.jobs.items) c.begin_all.new.walk.notes.items (book_of c.begin_all.new.seat).calls (count_of c.begin_all.new.walk.tallies) c.in_ok-begin_all.ensures.opens
    (λ state key. ap (λ ts. count_of ts state key) c.in_ok-begin_all.ensures.tallies ∙ c.in_ok-walk.ensures.tallies state key) in
    record {
      seat = c.begin_all.ensures.seat;
      whole = subst IsWhole (sym c.begin_all.ensures.numbers) c.requires.whole;
      stands = subst (λ (k : ℕ). Stands t custom c.args.attempt 1 k c.args.rows.now (tuples_in c.begin_all.new.walk.jobs.items) c.begin_all.new.walk.notes.items (book_of c.begin_all.new.seat).calls (count_of c.begin_all.new.walk.tallies)) n stands;
      components = ap length c.in_ok-begin_all.ensures.tallies ∙ c.in_ok-walk.ensures.components;
    }

pub go_down-requires-clause-ready : goal.go_down-requires-clause-ready
go_down-requires-clause-ready g c =
    let t = c.args.plan.now in
    let custom = g.O.RowOp.meaning c.args.custom.now in
    let ready : IsReady t (roots_of c.args.ledger.now) c.loop.walk =
    ready_of t custom c.args.attempt (c.loop.counter + 1) (length t.components - c.loop.counter) c.args.rows.now (roots_of c.args.ledger.now) c.loop.walk (book_of c.loop.seat).calls (count_of c.loop.walk.tallies) c.loop.invariant.stands c.requires.roots c.loop.invariant.components in
    search rules

pub loop-preserved : goal.loop-preserved
loop-preserved g c =
    let t = c.args.plan.now in
    let custom = g.O.RowOp.meaning c.args.custom.now in
    let below : c.loop.counter < length t.components = search rules in
    let levels : length t.components - c.loop.counter ≡ length t.components - (c.loop.counter + 1) + 1 = omega (arith, below) in
    let before = subst (λ (k : ℕ). Stands t custom c.args.attempt (c.loop.counter + 1) k c.args.rows.now (tuples_in c.loop.walk.jobs.items) c.loop.walk.notes.items (book_of c.loop.seat).calls (count_of c.loop.walk.tallies)) levels c.loop.invariant.stands in
    record {
      seat = c.go_down.ensures.seat;
      whole = whole_after (book_of c.loop.seat) (book_of c.go_down.new.seat) c.go_down.ensures.numbered c.loop.invariant.whole;
      stands = c.in_ok-go_down.ensures.stands c.args.attempt (c.loop.counter + 1) (length t.components - (c.loop.counter + 1)) c.args.rows.now before;
      components = c.in_ok-go_down.ensures.components ∙ c.loop.invariant.components;
    }

pub returns-in_err-go_down-clause-whole : goal.returns-in_err-go_down-clause-whole
returns-in_err-go_down-clause-whole g c = whole_after (book_of c.loop.seat) (book_of c.go_down.new.seat) c.go_down.ensures.numbered c.loop.invariant.whole

pub judge_all-requires-clause-roots : goal.judge_all-requires-clause-roots
judge_all-requires-clause-roots g c =
    let long = stands_count c.args.plan.now (g.O.RowOp.meaning c.args.custom.now) c.args.attempt (c.loop.counter + 1) (length c.args.plan.now.components - c.loop.counter) c.args.rows.now (tuples_in c.loop.walk.jobs.items) c.loop.walk.notes.items (book_of c.loop.seat).calls (count_of c.loop.walk.tallies) c.loop.invariant.stands in
    search rules

pub judge_all-requires-clause-held : goal.judge_all-requires-clause-held
judge_all-requires-clause-held g c = λ number list at.
    let t = c.args.plan.now in
    let custom = g.O.RowOp.meaning c.args.custom.now in
    let ended : c.loop.counter ≡ length t.components = search rules in
    let last = subst (λ (k : ℕ). Stands t custom c.args.attempt (k + 1) (length t.components - c.loop.counter) c.args.rows.now (tuples_in c.loop.walk.jobs.items) c.loop.walk.notes.items (book_of c.loop.seat).calls (count_of c.loop.walk.tallies)) ended c.loop.invariant.stands in
    let lists : c.as_slice.result.now ≡ c.loop.walk.notes.items = search rules in
    held_of t custom c.facts.ensures.valid c.args.attempt (length t.components - c.loop.counter) c.args.rows.now (tuples_in c.loop.walk.jobs.items) c.loop.walk.notes.items (book_of c.loop.seat).calls (count_of c.loop.walk.tallies) last (book_of c.loop.seat) refl number list
    (ap (λ (ls : List (List AckMsg)). slice_get ls number) (sym lists) ∙ at)

pub returns-clause-count : goal.returns-clause-count
returns-clause-count g c =
    stands_count c.args.plan.now (g.O.RowOp.meaning c.args.custom.now) c.args.attempt (c.loop.counter + 1) (length c.args.plan.now.components - c.loop.counter) c.args.rows.now (tuples_in c.loop.walk.jobs.items) c.loop.walk.notes.items (book_of c.loop.seat).calls (count_of c.loop.walk.tallies) c.loop.invariant.stands

pub returns-clause-notes : goal.returns-clause-notes
returns-clause-notes g c = λ number row list there at.
    let t = c.args.plan.now in
    let custom = g.O.RowOp.meaning c.args.custom.now in
    let ended : c.loop.counter ≡ length t.components = search rules in
    let last = subst (λ (k : ℕ). Stands t custom c.args.attempt (k + 1) (length t.components - c.loop.counter) c.args.rows.now (tuples_in c.loop.walk.jobs.items) c.loop.walk.notes.items (book_of c.loop.seat).calls (count_of c.loop.walk.tallies)) ended c.loop.invariant.stands in
    is_noted t custom c.facts.ensures.valid c.args.attempt (length t.components - c.loop.counter) c.args.rows.now (tuples_in c.loop.walk.jobs.items) c.loop.walk.notes.items (book_of c.loop.seat).calls (count_of c.loop.walk.tallies) last number row there (book_of c.judge_all.new.seat) list
    (ap (λ (b : Book). b.calls) c.judge_all.ensures.book) at

pub returns-clause-covers : goal.returns-clause-covers
returns-clause-covers g c = λ number row list there at is_acked.
    let t = c.args.plan.now in
    let custom = g.O.RowOp.meaning c.args.custom.now in
    let ended : c.loop.counter ≡ length t.components = search rules in
    let last = subst (λ (k : ℕ). Stands t custom c.args.attempt (k + 1) (length t.components - c.loop.counter) c.args.rows.now (tuples_in c.loop.walk.jobs.items) c.loop.walk.notes.items (book_of c.loop.seat).calls (count_of c.loop.walk.tallies)) ended c.loop.invariant.stands in
    let lists : c.as_slice.result.now ≡ c.loop.walk.notes.items = search rules in
    let judged : AllZip IsJudged c.loop.walk.notes.items c.in_ok-acked.acked.items = subst (λ (ls : List (List AckMsg)). AllZip IsJudged ls c.in_ok-acked.acked.items) lists c.in_ok-acked.ensures.judged in
    acked_covers t custom c.facts.ensures.valid c.args.attempt (length t.components - c.loop.counter) c.args.rows.now (tuples_in c.loop.walk.jobs.items) c.loop.walk.notes.items (book_of c.loop.seat).calls (count_of c.loop.walk.tallies) last number row there list true at
    (zip_at IsJudged c.loop.walk.notes.items c.in_ok-acked.acked.items judged number list true at is_acked) refl

pub returns-clause-acked : goal.returns-clause-acked
returns-clause-acked g c =
    let t = c.args.plan.now in
    let custom = g.O.RowOp.meaning c.args.custom.now in
    let ended : c.loop.counter ≡ length t.components = search rules in
    let last = subst (λ (k : ℕ). Stands t custom c.args.attempt (k + 1) (length t.components - c.loop.counter) c.args.rows.now (tuples_in c.loop.walk.jobs.items) c.loop.walk.notes.items (book_of c.loop.seat).calls (count_of c.loop.walk.tallies)) ended c.loop.invariant.stands in
    let lists : c.as_slice.result.now ≡ c.loop.walk.notes.items = search rules in
    let judged : AllZip IsJudged c.loop.walk.notes.items c.in_ok-acked.acked.items = subst (λ (ls : List (List AckMsg)). AllZip IsJudged ls c.in_ok-acked.acked.items) lists c.in_ok-acked.ensures.judged in
    all_acked t custom c.facts.ensures.valid c.args.attempt (length t.components - c.loop.counter) c.args.rows.now (tuples_in c.loop.walk.jobs.items) c.loop.walk.notes.items (book_of c.loop.seat).calls (count_of c.loop.walk.tallies) last c.in_ok-acked.acked.items judged

pub returns-clause-tallies : goal.returns-clause-tallies
returns-clause-tallies g c =
    let t = c.args.plan.now in
    let custom = g.O.RowOp.meaning c.args.custom.now in
    let ended : c.loop.counter ≡ length t.components = search rules in
    let last = subst (λ (k : ℕ). Stands t custom c.args.attempt (k + 1) (length t.components - c.loop.counter) c.args.rows.now (tuples_in c.loop.walk.jobs.items) c.loop.walk.notes.items (book_of c.loop.seat).calls (count_of c.loop.walk.tallies)) ended c.loop.invariant.stands in
    tallied_all t custom c.args.attempt (length t.components + 1) (length t.components - c.loop.counter) c.args.rows.now (tuples_in c.loop.walk.jobs.items) c.loop.walk.notes.items (book_of c.loop.seat).calls (count_of c.loop.walk.tallies) last
    (none_left t custom c.facts.ensures.valid c.args.attempt (length t.components - c.loop.counter) c.args.rows.now (tuples_in c.loop.walk.jobs.items) c.loop.walk.notes.items (book_of c.loop.seat).calls (count_of c.loop.walk.tallies) last) c.facts-2.ensures
