use Rattle.std.proofs.Common.{rules, ◌≡◌, ◌≢◌, ◌≤◌, ◌<◌, ◌+◌, ◌-◌, ◌*◌, ◌^◌, ℕ, zero, suc, bit_xor, Bool, true, false, true≢false, List, [], ◌∷◌, ◌++◌, map, take, get_or, set, length, replicate, Option, Some, None, All, sym, refl, ap, subst, ◌∙◌, arith}
use Rattle.shared_ledger.specs.declared.rule.Book.{Book}
use Rattle.tree_model.specs.storm_values.declared.value.Value.{Value}
use Rattle.window_account.specs.Stands.{Opens}
use Rattle.track_window.proofs.Executed.{take_all}
use Rattle.shared_ledger.specs.Books.{numbers_in}
use Rattle.shared_ledger.specs.Seats.{book_of}
use Rattle.track_window.specs.Jobs.{tuples_in}
use Rattle.track_window.proofs.Depths.{opens_none, opens_count, opens_more}
use Rattle.track_window.proofs.depth.begin_all.Goals as goal

pub loop-number-init : goal.loop-number-init
loop-number-init g c = record {
  seat = c.requires.seat;
  numbers = refl;
  opens = opens_none c.args.plan.now c.args.attempt (length c.args.rows.now) (tuples_in c.args.walk.now.jobs.items) c.args.walk.now.notes.items (book_of c.args.seat.now).calls (ap tuples_in c.requires.jobs) c.requires.notes c.requires.no_calls;
  tallies = refl;
}

pub begin-requires-clause-number : goal.begin-requires-clause-number
begin-requires-clause-number g c =
    let count = opens_count c.args.plan.now c.args.attempt (length c.args.rows.now) (take c.loop-number.number c.args.rows.now) (tuples_in c.loop-number.walk.jobs.items) c.loop-number.walk.notes.items (book_of c.loop-number.seat).calls c.loop-number.invariant.opens in
    rw count (search rules)

pub loop-number-preserved : goal.loop-number-preserved
loop-number-preserved g c =
    let n = c.loop-number.number in
    let within : n < length c.args.rows.now = search rules in
    record {
      seat = c.init.ensures.seat;
      numbers = ap numbers_in c.init.ensures.book ∙ c.loop-number.invariant.numbers;
      opens = opens_more c.args.plan.now c.args.attempt (length c.args.rows.now) c.args.rows.now n c.index-rows-number.result c.in_ok-word.word c.loop-number.walk c.begin.new.self (book_of c.loop-number.seat).calls (book_of c.init.new.seat).calls
          within c.index-rows-number.is c.loop-number.invariant.opens c.in_ok-word.ensures (ap (λ (b : Book). b.calls) c.init.ensures.book);
      tallies = c.in_ok-word.ensures.tallies ∙ c.loop-number.invariant.tallies;
    }

pub returns-clause-opens : goal.returns-clause-opens
returns-clause-opens g c =
    let all : c.loop-number.number ≡ length c.args.rows.now = search rules in
    subst (λ (rs : List (List Value)). Opens c.args.plan.now c.args.attempt (length c.args.rows.now) rs (tuples_in c.loop-number.walk.jobs.items) c.loop-number.walk.notes.items (book_of c.loop-number.seat).calls)
    (take_all c.args.rows.now c.loop-number.number all) c.loop-number.invariant.opens
