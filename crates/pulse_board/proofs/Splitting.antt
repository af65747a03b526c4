-- A split and a join keep the rule.
use Rattle.std.proofs.Common.{◌≡◌, ◌≢◌, ℕ, ◌+◌, true≢false, List, [], ◌∷◌, ◌++◌, set, inl, inr, ⊎_elim, sym, refl, ap, subst, ◌∙◌, arith}
use mathlib.Core.Option.{some}
use lib.ListN.{get_elem?}
use Rattle.atomic_table.specs.Table.{Splits, Joins}
use Rattle.counted_items.specs.Weights.{weigh}
use Rattle.counted_items.proofs.Each.{each-append}
use Rattle.counted_items.proofs.Weighing.{weigh-append}
use Rattle.pass_numbers.specs.declared.Number.{Number}
use Rattle.pass_numbers.specs.Numbers.{over, Numbered}
use Rattle.pass_numbers.proofs.Lists.{each-set, each-at, set-at, set-else, some-append}
use Rattle.pass_numbers.proofs.Weights.{weigh-set, weigh-set-append, weigh-at}
use Rattle.pass_numbers.proofs.Numbering.{numbered_as, split_numbered, split_beside, join_beside, kept_some, cut_some}
use Rattle.pulse_board.specs.declared.rule.Book.{Book}
use Rattle.pulse_board.specs.Books.{no_book, numbers_in, kept_of, cut_of, both_of}
use Rattle.pulse_board.specs.Rule.{drawn_of, IsSpent, SawOwn, Kept}
use Rattle.pulse_board.proofs.Weighed.{mark_of, halt_of, made_of, drawn_weight, one, drawn-is, weigh-one, or_bits, or_own}
use Rattle.pulse_board.proofs.Keeping.{Low}

module _ {S : Type 0} (id : ℕ) (v : Book) (some_number : v.numbers ≢ []) where
  pub cuts : Splits {S = S} (λ s. Kept s.words s.views) id v (kept_of v) (cut_of v)
  cuts s kept at =
      let books : List Book = s.views in
      let after : List Book = set books id (kept_of v) ++ cut_of v ∷ [] in
      let h = weigh-set-append halt_of books id v (kept_of v) (cut_of v) at in
      let m = weigh-set-append mark_of books id v (kept_of v) (cut_of v) at in
      let o = weigh-set-append made_of books id v (kept_of v) (cut_of v) at in
      let d : (f : ℕ → ℕ) → weigh f (drawn_of after) ≡ weigh f (drawn_of books) = λ f. let e = weigh-set-append (drawn_weight f) books id v (kept_of v) (cut_of v) at in let a = drawn-is f books in let b = drawn-is f after in omega arith in
      let hv = weigh-at halt_of books id v at in
      let mv = weigh-at mark_of books id v at in
      record {
        count = kept.count;
        flag = kept.flag;
        words_are = kept.words_are;
        numbered = split_numbered numbers_in no_book refl books id v (kept_of v) (cut_of v) at some_number refl refl kept.numbered;
        spent = each-append IsSpent (set books id (kept_of v)) (cut_of v ∷ []) (each-set IsSpent books id (kept_of v) kept.spent (λ nil. absurd (kept_some v.numbers some_number nil))) ((λ nil. absurd (cut_some v.numbers some_number nil)), tt);
        halts = record {
          unset = λ clear. let a = kept.halts.unset clear in omega arith;
          set = λ raised. let a = kept.halts.set raised in omega arith;
          own = each-append SawOwn (set books id (kept_of v)) (cut_of v ∷ []) (each-set SawOwn books id (kept_of v) kept.halts.own (each-at SawOwn books id v kept.halts.own at)) ((λ made. absurd (true≢false (sym made))), tt);
        };
        counts = ⊎_elim
            (λ steady. let a = steady.unmarked in let low = each-at (Low kept.count) books id v steady.low at in inl (record { unmarked = omega arith; drawn = λ f. d f ∙ steady.drawn f; low = each-append (Low kept.count) (set books id (kept_of v)) (cut_of v ∷ []) (each-set (Low kept.count) books id (kept_of v) steady.low low) (low, tt) }))
            (λ wrap. let a = wrap.marked in let b = wrap.many in let c = d one in let x = weigh-one (drawn_of books) in let y = weigh-one (drawn_of after) in inr (record { marked = omega arith; many = omega arith })) kept.counts;
      }

module _ {S : Type 0} (id : ℕ) (v : Book) (other : ℕ) (u : Book) (some_number : v.numbers ≢ []) where
  pub joins : Joins {S = S} (λ s. Kept s.words s.views) id v other u (both_of v u) no_book
  joins s kept at apart there =
      let books : List Book = s.views in
      let w : Book = both_of v u in
      let after : List Book = set (set books id w) other no_book in
      let was : get_elem? books other ≡ some u = sym (set-else books id other w (λ e. apart (sym e))) ∙ there in
      let here : get_elem? after id ≡ some w = set-else (set books id w) other id no_book apart ∙ set-at books id v w at in
      let moved : (f : Book → ℕ) → f no_book ≡ 0 → weigh f after + f u + f v ≡ weigh f books + f w = λ f nil. let e = weigh-set f books id v w at in let g = weigh-set f (set books id w) other u no_book there in omega arith in
      let same : (f : Number → ℕ) → over numbers_in f after ≡ over numbers_in f books = λ f. let e = moved (λ (b : Book). weigh f b.numbers) refl in let g = weigh-append f v.numbers u.numbers in omega arith in
      let d : (f : ℕ → ℕ) → weigh f (drawn_of after) ≡ weigh f (drawn_of books) = λ f. let e = moved (drawn_weight f) refl in let g = weigh-append f v.drawn u.drawn in let a = drawn-is f books in let b = drawn-is f after in omega arith in
      let h = moved halt_of refl in
      let hs = or_bits v.halted u.halted in
      let hv = weigh-at halt_of books id v at in
      let hu = weigh-at halt_of books other u was in
      let m = moved mark_of refl in
      let ms = or_bits v.wrapped u.wrapped in
      let mv = weigh-at mark_of books id v at in
      let mu = weigh-at mark_of books other u was in
      let mw = weigh-at mark_of after id w here in
      let o = moved made_of refl in
      let os = or_bits v.made u.made in
      let ow = weigh-at made_of after id w here in
      let o0 = os.0 in let o1 = os.1 in let o2 = os.2 in
      let h0 = hs.0 in let h1 = hs.1 in let h2 = hs.2 in let m0 = ms.0 in let m1 = ms.1 in let m2 = ms.2 in
      record {
        count = kept.count;
        flag = kept.flag;
        words_are = kept.words_are;
        numbered = numbered_as numbers_in numbers_in books after same kept.numbered;
        spent = each-set IsSpent (set books id w) other no_book (each-set IsSpent books id w kept.spent (λ nil. absurd (some-append v.numbers u.numbers some_number nil))) (λ _. refl);
        halts = record {
          unset = λ clear. let a = kept.halts.unset clear in omega arith;
          set = λ raised. let a = kept.halts.set raised in omega arith;
          own = each-set SawOwn (set books id w) other no_book (each-set SawOwn books id w kept.halts.own (or_own v.made u.made v.halted u.halted (each-at SawOwn books id v kept.halts.own at) (each-at SawOwn books other u kept.halts.own was))) (λ made. absurd (true≢false (sym made)));
        };
        counts = ⊎_elim
            (λ steady. let a = steady.unmarked in
            let lv = each-at (Low kept.count) books id v steady.low at in
            let lu = each-at (Low kept.count) books other u steady.low was in
            inl (record { unmarked = omega arith; drawn = λ f. d f ∙ steady.drawn f; low = each-set (Low kept.count) (set books id w) other no_book (each-set (Low kept.count) books id w steady.low (omega arith)) (omega arith) }))
            (λ wrap. let a = wrap.marked in let b = wrap.many in let c = d one in let x = weigh-one (drawn_of books) in let y = weigh-one (drawn_of after) in inr (record { marked = omega arith; many = omega arith })) kept.counts;
      }

-- a book that was joined has a number
pub joined_some : (v u w : Book) → v.numbers ≢ [] → w ≡ both_of v u → w.numbers ≢ []
joined_some v u w some_number is = subst (λ (b : Book). b.numbers ≢ []) (sym is) (some-append v.numbers u.numbers some_number)

-- ---- the seats that a caller holds

pub split_others : (v x r : Book) (others : List Book) → v.numbers ≢ [] → x ≡ kept_of v → r ≡ cut_of v → Numbered numbers_in (v ∷ others) → Numbered numbers_in (x ∷ r ∷ others)
split_others v x r others some_number kept cut = split_beside numbers_in no_book refl v x r others some_number (ap numbers_in kept) (ap numbers_in cut)

pub join_others : (v u x : Book) (others : List Book) → x ≡ both_of v u → Numbered numbers_in (v ∷ u ∷ others) → Numbered numbers_in (x ∷ others)
join_others v u x others is = join_beside numbers_in v u x others (ap numbers_in is)
