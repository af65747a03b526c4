use Rattle.std.proofs.Common.{◌≡◌, ℕ, length, sym, ap, subst, ◌∙◌, arith}
use Rattle.std.specs.Prelude.{◌+◌, ◌-◌, ◌^◌, min}
use Rattle.pass_numbers.specs.Numbers.{IsWhole}
use Rattle.pulse_board.specs.Books.{Tells, ticked}
use Rattle.pulse_board.specs.declared.rule.Book.{Book}
use Rattle.pulse_board.specs.Seats.{book_of}
use Rattle.worker_rounds.proofs.Calling.{ticks-more, ticks-once}
use Rattle.worker_rounds.proofs.round.tick_board.Goals as goal

pub loop-counted-init : goal.loop-counted-init
loop-counted-init c = record { seat = c.requires.seat; drawn = omega arith }

pub loop-counted-preserved : goal.loop-counted-preserved
loop-counted-preserved c =
    let kept = c.loop-counted.invariant in
    let was = book_of c.loop-counted.seat in
    let is = book_of c.tick.new.seat in
    let tells : Tells (ticked was c.tick.result) = subst Tells c.tick.ensures.book (c.tick.ensures.whole kept.seat.whole) in
    let once = ap (λ (b : Book). min (length b.drawn) (2 ^ 64 - 1)) c.tick.ensures.book ∙ ticks-once was c.tick.result tells in record {
      seat = record { of_board = c.tick.ensures.seat; whole = subst IsWhole (sym c.tick.ensures.numbers) kept.seat.whole };
      drawn = ticks-more (length (book_of c.args.seat.now).drawn) c.loop-counted.counted (length was.drawn) (length is.drawn) kept.drawn once;
    }

pub returns-clause-drawn : goal.returns-clause-drawn
returns-clause-drawn c =
    let end : c.loop-counted.counted ≡ c.args.count = (let far = c.loop-counted-test.false in let near = c.loop-counted.auto.counted-end in omega arith) in
    c.loop-counted.invariant.drawn ∙ ap (λ (n : ℕ). min (length (book_of c.args.seat.now).drawn + n) (2 ^ 64 - 1)) end
