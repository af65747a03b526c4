-- Each step on a word keeps the rule, and tells what it tells.
use Rattle.std.proofs.Common.{◌≡◌, ◌≢◌, ℕ, ◌+◌, ◌<◌, ◌%◌, slice_index, slice_set, true, List, [], set, sym, refl, subst, ◌∙◌, arith}
use mathlib.Core.Option.{none}
use Rattle.atomic_table.specs.Table.{State, Me, Act, Step, step, keeps, Valid, carried_after, Allows}
use Rattle.pass_numbers.specs.Numbers.{IsWhole}
use Rattle.pass_numbers.proofs.Lists.{set-at}
use Rattle.pass_numbers.proofs.Numbering.{numbered_set}
use Rattle.pulse_board.specs.declared.rule.Book.{Book}
use Rattle.pulse_board.specs.Books.{numbers_in, ticked, looked, with_halt, made_halt}
use Rattle.pulse_board.specs.Rule.{Kept}
use Rattle.pulse_board.specs.Steps.{Ticks, Looks, Learns, Halts, SeesHalt}
use Rattle.pulse_board.proofs.Keeping.{spent_set, halts_seen, halts_made, counts_same, ticked_numbers, looked_numbers, tick_halts, look_halts, same_halts, tick_counts, look_counts, flag_on}
use Rattle.pulse_board.proofs.Whole.{tells, count_whole, halt_whole}

-- a book with the numbers of one that has some
some_as : (v w : Book) → w.numbers ≡ v.numbers → v.numbers ≢ [] → w.numbers ≢ []
some_as v w same some_number nil = some_number (sym same ∙ nil)

whole_as : (v w : Book) → w.numbers ≡ v.numbers → IsWhole (numbers_in v) → IsWhole (numbers_in w)
whole_as v w same whole = subst IsWhole (sym same) whole

module _ {S : Type 0} (slots id : ℕ) (me : Me S Book) (some_number : me.0.numbers ≢ []) where
  -- what a step tells does not depend on it
  abbrev any_step : Step S
  any_step = step 0 0 0 0 none

  abbrev Rule : State S Book → Type 0
  Rule s = Kept s.words s.views

  pub ticks : Allows Rule slots id me 0 (λ n. (n + 1) % 18446744073709551616) (Ticks any_step me)
  ticks s kept sized at small =
      subst (λ (ws : List ℕ). slice_index ws 0 < 18446744073709551616 → (w : Book) × (a : Act S) × Valid s.homes me.1 a × Kept (slice_set ws 0 ((slice_index ws 0 + 1) % 18446744073709551616)) (slice_set s.views id w) × Ticks any_step me (slice_index ws 0) (w, carried_after me.1 a))
      (sym kept.words_are) (λ low.
      let v : Book = me.0 in
      let r : ℕ = (kept.count + 1) % 18446744073709551616 in
      let w : Book = ticked v r in
      let same : w.numbers ≡ v.numbers = ticked_numbers v r in
      let numbered = numbered_set numbers_in s.views id v w at same kept.numbered in
      let spent = spent_set s.views id v w at (some_as v w same some_number) kept.spent in
      let counts = tick_counts s.views id v at kept.count low kept.counts in (
        w,
        keeps,
        tt,
        record { count = r; flag = kept.flag; words_are = refl; numbered = numbered; spent = spent; halts = tick_halts s.views id v at kept.flag r kept.halts; counts = counts },
        (refl, refl, λ whole. tells (set s.views id w) id w (set-at s.views id v w at) numbered spent (whole_as v w same whole) r counts),
      )) small

  pub looks : Allows Rule slots id me 0 (λ n. n) (Looks any_step me)
  looks s kept sized at small =
      subst (λ (ws : List ℕ). (w : Book) × (a : Act S) × Valid s.homes me.1 a × Kept (slice_set ws 0 (slice_index ws 0)) (slice_set s.views id w) × Looks any_step me (slice_index ws 0) (w, carried_after me.1 a))
      (sym kept.words_are) (
      let v : Book = me.0 in
      let n : ℕ = kept.count in
      let w : Book = looked v n in
      let same : w.numbers ≡ v.numbers = looked_numbers v n in
      let numbered = numbered_set numbers_in s.views id v w at same kept.numbered in
      let spent = spent_set s.views id v w at (some_as v w same some_number) kept.spent in
      let counts = look_counts s.views id v at n kept.counts in
      let there = set-at s.views id v w at in (
        w,
        keeps,
        tt,
        record { count = n; flag = kept.flag; words_are = refl; numbered = numbered; spent = spent; halts = look_halts s.views id v at kept.flag n kept.halts; counts = counts },
        (
          refl,
          refl,
          λ whole. (
            tells (set s.views id w) id w there numbered spent (whole_as v w same whole) n counts,
            count_whole (set s.views id w) id w there numbered spent (whole_as v w same whole) n counts,
          ),
        ),
      ))

  pub learns : Allows Rule slots id me 0 (λ n. n) (Learns any_step me)
  learns s kept sized at small =
      subst (λ (ws : List ℕ). (w : Book) × (a : Act S) × Valid s.homes me.1 a × Kept (slice_set ws 0 (slice_index ws 0)) (slice_set s.views id w) × Learns any_step me (slice_index ws 0) (w, carried_after me.1 a))
      (sym kept.words_are) (
      let v : Book = me.0 in (
        v,
        keeps,
        tt,
        record {
          count = kept.count;
          flag = kept.flag;
          words_are = refl;
          numbered = numbered_set numbers_in s.views id v v at refl kept.numbered;
          spent = spent_set s.views id v v at some_number kept.spent;
          halts = same_halts s.views id v at kept.flag kept.halts;
          counts = counts_same s.views id v v at kept.count refl refl (omega arith) kept.counts;
        },
        (refl, λ whole. tells s.views id v at kept.numbered kept.spent whole kept.count kept.counts),
      ))

  pub halting : Allows Rule slots id me 1 (λ n. 1) (λ _. Halts any_step me 1)
  halting s kept sized at small =
      subst (λ (ws : List ℕ). (w : Book) × (a : Act S) × Valid s.homes me.1 a × Kept (slice_set ws 1 1) (slice_set s.views id w) × Halts any_step me 1 (w, carried_after me.1 a))
      (sym kept.words_are) (
      let v : Book = me.0 in
      let w : Book = made_halt v in (
        w,
        keeps,
        tt,
        record {
          count = kept.count;
          flag = true;
          words_are = refl;
          numbered = numbered_set numbers_in s.views id v w at refl kept.numbered;
          spent = spent_set s.views id v w at some_number kept.spent;
          halts = halts_made s.views id v w at kept.flag refl refl kept.halts;
          counts = counts_same s.views id v w at kept.count refl refl (omega arith) kept.counts;
        },
        (refl, refl),
      ))

  pub sees_halt : Allows Rule slots id me 1 (λ n. n) (SeesHalt any_step me)
  sees_halt s kept sized at small =
      subst (λ (ws : List ℕ). (w : Book) × (a : Act S) × Valid s.homes me.1 a × Kept (slice_set ws 1 (slice_index ws 1)) (slice_set s.views id w) × SeesHalt any_step me (slice_index ws 1) (w, carried_after me.1 a))
      (sym kept.words_are) (
      let v : Book = me.0 in
      let w : Book = with_halt v kept.flag in
      let on = flag_on s.views id v at kept.flag kept.halts in (
        w,
        keeps,
        tt,
        record {
          count = kept.count;
          flag = kept.flag;
          words_are = refl;
          numbered = numbered_set numbers_in s.views id v w at refl kept.numbered;
          spent = spent_set s.views id v w at some_number kept.spent;
          halts = halts_seen s.views id v w at kept.flag refl refl on kept.halts;
          counts = counts_same s.views id v w at kept.count refl refl (omega arith) kept.counts;
        },
        (kept.flag, refl, refl, refl, on, λ whole. halt_whole s.views id v at kept.numbered kept.spent whole kept.flag kept.halts),
      ))
