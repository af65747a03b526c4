-- What a seat with all numbers knows.
use Rattle.std.proofs.Common.{◌≡◌, ℕ, Bool, true, false, List, [], ◌∷◌, length, ⊎_elim, sym, refl, ap, ◌∙◌, arith}
use Rattle.std.specs.List.{AllByRecursion}
use mathlib.Core.Option.{some}
use lib.ListN.{get_elem?}
use Rattle.counted_items.specs.Weights.{weigh}
use Rattle.pass_numbers.specs.Numbers.{Numbered, IsWhole}
use Rattle.pass_numbers.proofs.Lists.{each-at}
use Rattle.counted_items.proofs.Each.{each-weaker}
use Rattle.pass_numbers.proofs.Weights.{none-each}
use Rattle.pass_numbers.proofs.Numbering.{only}
use Rattle.pulse_board.specs.declared.rule.Book.{Book}
use Rattle.pulse_board.specs.Books.{no_book, numbers_in, one_to, Tells}
use Rattle.pulse_board.specs.Rule.{bit, drawn_of, Steady, Wrapped, IsSpent, SawOwn, KeepsHalt}
use Rattle.pulse_board.proofs.Weighed.{mark_of, halt_of, made_of, drawn_weight, one, drawn-is, drawn-length, weigh-one, one_to-one, set_bit, clear_bit}
use Rattle.pulse_board.proofs.Keeping.{Counts, Low}

-- a weight that is 0 of no book is 0 of each book without numbers
spent_weight : (f : Book → ℕ) → f no_book ≡ 0 → (books : List Book) → AllByRecursion IsSpent books → AllByRecursion (λ (b : Book). b.numbers ≡ [] → f b ≡ 0) books
spent_weight f nil [] spent = tt
spent_weight f nil (b ∷ books) spent = ((λ none. ap f (spent.0 none) ∙ nil), spent_weight f nil books spent.1)

module _ (books : List Book) (id : ℕ) (v : Book) (at : get_elem? books id ≡ some v) (numbered : Numbered numbers_in books) (spent : AllByRecursion IsSpent books) (whole : IsWhole (numbers_in v)) where
  -- the weight of its book is that of all books
  alone : (f : Book → ℕ) → f no_book ≡ 0 → weigh f books ≡ f v
  alone f nil = only numbers_in no_book refl f nil books id v (spent_weight f nil books spent) whole numbered at

  drawn_alone : (f : ℕ → ℕ) → weigh f (drawn_of books) ≡ weigh f v.drawn
  drawn_alone f = drawn-is f books ∙ alone (drawn_weight f) refl

  length_alone : length (drawn_of books) ≡ length v.drawn
  length_alone = drawn-length books ∙ alone (drawn_weight one) refl ∙ weigh-one v.drawn

  count_is : (count : ℕ) → Steady count books → length v.drawn ≡ count
  count_is count steady = let a = steady.drawn one in let b = drawn_alone one in let c = weigh-one v.drawn in let d = one_to-one count in omega arith

  tells_steady : (count : ℕ) → Steady count books → Tells v
  tells_steady count steady =
      let is = count_is count steady in
      let low = each-at (Low count) books id v steady.low at in record {
        marked = λ raised. let a = steady.unmarked in let b = alone mark_of refl in let c : mark_of v ≡ 1 = ap bit raised in absurd (omega arith);
        drawn = λ clear f. sym (drawn_alone f) ∙ steady.drawn f ∙ ap (λ (n : ℕ). weigh f (one_to n)) (sym is);
        seen = λ clear. omega arith;
      }

  no_mark : Wrapped books → v.wrapped ≡ false → ⊥
  no_mark wrap clear = let a = wrap.marked in let b = alone mark_of refl in let c : mark_of v ≡ 0 = ap bit clear in omega arith

  tells_wrapped : Wrapped books → Tells v
  tells_wrapped wrap = record {
    marked = λ raised. let a = wrap.many in let b = length_alone in omega arith;
    drawn = λ clear. absurd (no_mark wrap clear);
    seen = λ clear. absurd (no_mark wrap clear);
  }

  pub tells : (count : ℕ) → Counts count books → Tells v
  tells count counts = ⊎_elim (tells_steady count) tells_wrapped counts

  pub count_whole : (count : ℕ) → Counts count books → v.wrapped ≡ false → count ≡ length v.drawn
  count_whole count counts clear = ⊎_elim (λ steady. sym (count_is count steady)) (λ wrap. absurd (no_mark wrap clear)) counts

  pub halt_whole : (flag : Bool) → KeepsHalt flag books → flag ≡ v.halted
  halt_whole true halts = let a = halts.set refl in let b = alone made_of refl in sym (each-at SawOwn books id v halts.own at (set_bit v.made (omega arith)))
  halt_whole false halts = let a = halts.unset refl in let b = alone halt_of refl in sym (clear_bit v.halted (omega arith))

-- books of which none is marked are steady
pub unmarked_steady : (books : List Book) (count : ℕ) → Counts count books → AllByRecursion (λ (b : Book). b.wrapped ≡ false) books → Steady count books
unmarked_steady books count counts clear =
    ⊎_elim (λ steady. steady)
    (λ wrap. let a = wrap.marked in let e = none-each mark_of books (each-weaker (λ (b : Book). b.wrapped ≡ false) (λ (b : Book). mark_of b ≡ 0) (λ b is. ap bit is) books clear) in absurd (omega arith)) counts
