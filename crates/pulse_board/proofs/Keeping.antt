-- A step that changes one book keeps each part of the rule.
use Rattle.std.proofs.Common.{◌≡◌, ◌≢◌, ◌⊎◌, ℕ, suc, ◌+◌, ◌<◌, ◌≤◌, ◌%◌, max, nat_lt, nat_le, Bool, true, false, cond, true≢false, List, [], ◌∷◌, ◌++◌, set, length, inl, inr, ⊎_elim, sym, refl, ap, subst, ◌∙◌, arith}
use Rattle.std.proofs.lemmas.Bool.Decides.{nat_tests}
use Rattle.std.specs.List.{AllByRecursion}
use mathlib.Core.Option.{some}
use lib.ListN.{get_elem?}
use Rattle.counted_items.specs.Weights.{weigh}
use Rattle.counted_items.proofs.Each.{each-weaker}
use Rattle.counted_items.proofs.Weighing.{weigh-append}
use Rattle.pass_numbers.proofs.Lists.{each-set, each-at, set-at}
use Rattle.pass_numbers.proofs.Weights.{weigh-set, weigh-at}
use Rattle.pulse_board.specs.declared.rule.Book.{Book}
use Rattle.pulse_board.specs.Books.{top, marked, drew, saw, ticked, looked}
use Rattle.pulse_board.specs.Rule.{bit, drawn_of, halted_books, Steady, Wrapped, IsSpent, SawOwn, KeepsHalt}
use Rattle.pulse_board.proofs.Weighed.{mark_of, halt_of, made_of, one, drawn-set, weigh-one, one_to-more, one_to-one}

abbrev pub Counts : ℕ → List Book → Type 0
Counts count books = Steady count books ⊎ Wrapped books

abbrev pub Low : ℕ → Book → Type 0
Low count b = b.seen ≤ count

module _ (books : List Book) (id : ℕ) (v w : Book) (at : get_elem? books id ≡ some v) where
  -- the book has a number
  pub spent_set : w.numbers ≢ [] → AllByRecursion IsSpent books → AllByRecursion IsSpent (set books id w)
  spent_set some_number spent = each-set IsSpent books id w spent (λ nil. absurd (some_number nil))

  -- ---- halts

  halts_set : (flag : Bool) → w.halted ≡ v.halted → w.made ≡ v.made → KeepsHalt flag books → KeepsHalt flag (set books id w)
  halts_set flag same made halts =
      let e = weigh-set halt_of books id v w at in
      let f : halt_of w ≡ halt_of v = ap bit same in
      let g = weigh-set made_of books id v w at in
      let h : made_of w ≡ made_of v = ap bit made in
      record { unset = λ is. let a = halts.unset is in omega arith; set = λ is. let a = halts.set is in omega arith; own = each-set SawOwn books id w halts.own (λ is. same ∙ each-at SawOwn books id v halts.own at (sym made ∙ is)) }

  -- the book says what the board says
  pub halts_seen : (flag : Bool) → w.halted ≡ flag → w.made ≡ v.made → (v.halted ≡ true → flag ≡ true) → KeepsHalt flag books → KeepsHalt flag (set books id w)
  halts_seen flag is made stays halts =
      let g = weigh-set made_of books id v w at in
      let h : made_of w ≡ made_of v = ap bit made in
      record { unset = unset flag is halts.unset; set = λ raised. let a = halts.set raised in omega arith; own = each-set SawOwn books id w halts.own (λ own. is ∙ stays (each-at SawOwn books id v halts.own at (sym made ∙ own))) }
    where
      unset : (flag : Bool) → w.halted ≡ flag → (flag ≡ false → halted_books books ≡ 0) → flag ≡ false → halted_books (set books id w) ≡ 0
      unset true is before clear = absurd (true≢false clear)
      unset false is before clear =
          let e = weigh-set halt_of books id v w at in
          let f : halt_of w ≡ 0 = ap bit is in
          let a = before refl in omega arith

  pub halts_made : (flag : Bool) → w.halted ≡ true → w.made ≡ true → KeepsHalt flag books → KeepsHalt true (set books id w)
  halts_made flag is made halts =
      let a = weigh-at made_of (set books id w) id w (set-at books id v w at) in
      let f : made_of w ≡ 1 = ap bit made in
      record { unset = λ clear. absurd (true≢false clear); set = λ raised. omega arith; own = each-set SawOwn books id w halts.own (λ own. is) }

  -- ---- counts

  pub counts_same : (count : ℕ) → w.drawn ≡ v.drawn → w.wrapped ≡ v.wrapped → w.seen ≤ max v.seen count → Counts count books → Counts count (set books id w)
  counts_same count drawn wrapped seen counts =
      let e = weigh-set mark_of books id v w at in
      let f : mark_of w ≡ mark_of v = ap bit wrapped in
      let g : (h : ℕ → ℕ) → weigh h (drawn_of (set books id w)) ≡ weigh h (drawn_of books) = λ h. let a = drawn-set h books id v w at in let b : weigh h w.drawn ≡ weigh h v.drawn = ap (weigh h) drawn in omega arith in
      ⊎_elim
      (λ steady. let low = each-at (Low count) books id v steady.low at in let a = steady.unmarked in inl (record { unmarked = omega arith; drawn = λ h. g h ∙ steady.drawn h; low = each-set (Low count) books id w steady.low (omega arith) }))
      (λ wrap. let a = wrap.marked in let b = wrap.many in let c = g one in let x = weigh-one (drawn_of books) in let y = weigh-one (drawn_of (set books id w)) in inr (record { marked = omega arith; many = omega arith })) counts

  -- the seat found a count below what it had seen, or the last one
  counts_marked : (count after : ℕ) → w.drawn ≡ v.drawn → w.wrapped ≡ true → (v.seen ≤ count → top ≤ count) → Counts count books → Counts after (set books id w)
  counts_marked count after drawn wrapped last counts =
      let a = weigh-at mark_of (set books id w) id w (set-at books id v w at) in
      let f : mark_of w ≡ 1 = ap bit wrapped in
      let e = drawn-set one books id v w at in
      let d : weigh one w.drawn ≡ weigh one v.drawn = ap (weigh one) drawn in
      let x = weigh-one (drawn_of books) in
      let y = weigh-one (drawn_of (set books id w)) in
      let many : top ≤ length (drawn_of books) = ⊎_elim
      (λ steady. let b = last (each-at (Low count) books id v steady.low at) in let c = steady.drawn one in let s = one_to-one count in omega arith)
      (λ wrap. wrap.many) counts in
      inr (record { marked = omega arith; many = omega arith })

  counts_drew : (count : ℕ) → w.drawn ≡ v.drawn ++ suc count ∷ [] → w.wrapped ≡ v.wrapped → w.seen ≡ suc count → Counts count books → Counts (suc count) (set books id w)
  counts_drew count drawn wrapped seen counts =
      let e = weigh-set mark_of books id v w at in
      let f : mark_of w ≡ mark_of v = ap bit wrapped in
      let g : (h : ℕ → ℕ) → weigh h (drawn_of (set books id w)) ≡ weigh h (drawn_of books) + h (suc count) = λ h.
      let a = drawn-set h books id v w at in
      let b : weigh h w.drawn ≡ weigh h v.drawn + (h (suc count) + 0) = ap (weigh h) drawn ∙ weigh-append h v.drawn (suc count ∷ []) in omega arith in
      let x = weigh-one (drawn_of books) in
      let y = weigh-one (drawn_of (set books id w)) in
      ⊎_elim
      (λ steady. let a = steady.unmarked in inl (record {
        unmarked = omega arith;
        drawn = λ h. let b = g h in let c = steady.drawn h in let m = one_to-more h count in omega arith;
        low = each-set (Low (suc count)) books id w (each-weaker (Low count) (Low (suc count)) (λ b l. omega arith) books steady.low) (omega arith);
      }))
      (λ wrap. let a = wrap.marked in let b = wrap.many in let c = g one in inr (record { marked = omega arith; many = omega arith })) counts
  -- ---- a book is one of two

pick_numbers : (b : Bool) (v w x : Book) → v.numbers ≡ x.numbers → w.numbers ≡ x.numbers → (cond b v w).numbers ≡ x.numbers
pick_numbers true v w x p q = p
pick_numbers false v w x p q = q

pick_halted : (b : Bool) (v w x : Book) → v.halted ≡ x.halted → w.halted ≡ x.halted → (cond b v w).halted ≡ x.halted
pick_halted true v w x p q = p
pick_halted false v w x p q = q

pick_made : (b : Bool) (v w x : Book) → v.made ≡ x.made → w.made ≡ x.made → (cond b v w).made ≡ x.made
pick_made true v w x p q = p
pick_made false v w x p q = q

pub ticked_numbers : (v : Book) (number : ℕ) → (ticked v number).numbers ≡ v.numbers
ticked_numbers v number = pick_numbers (nat_le number v.seen) (marked v) (drew v number) v refl refl

pub looked_numbers : (v : Book) (count : ℕ) → (looked v count).numbers ≡ v.numbers
looked_numbers v count = pick_numbers (nat_lt count v.seen) (marked v) (saw v count) v refl refl

module _ (books : List Book) (id : ℕ) (v : Book) (at : get_elem? books id ≡ some v) where
  pub tick_halts : (flag : Bool) (number : ℕ) → KeepsHalt flag books → KeepsHalt flag (set books id (ticked v number))
  tick_halts flag number =
      halts_set books id v (ticked v number) at flag (pick_halted (nat_le number v.seen) (marked v) (drew v number) v refl refl) (pick_made (nat_le number v.seen) (marked v) (drew v number) v refl refl)

  pub look_halts : (flag : Bool) (count : ℕ) → KeepsHalt flag books → KeepsHalt flag (set books id (looked v count))
  look_halts flag count =
      halts_set books id v (looked v count) at flag (pick_halted (nat_lt count v.seen) (marked v) (saw v count) v refl refl) (pick_made (nat_lt count v.seen) (marked v) (saw v count) v refl refl)

  pub same_halts : (flag : Bool) → KeepsHalt flag books → KeepsHalt flag (set books id v)
  same_halts flag = halts_set books id v v at flag refl refl

  pub tick_counts : (count : ℕ) → count < 18446744073709551616 → Counts count books → Counts ((count + 1) % 18446744073709551616) (set books id (ticked v ((count + 1) % 18446744073709551616)))
  tick_counts count small counts = by_case (nat_le ((count + 1) % 18446744073709551616) v.seen) refl
    where
      by_case : (b : Bool) → nat_le ((count + 1) % 18446744073709551616) v.seen ≡ b → Counts ((count + 1) % 18446744073709551616) (set books id (cond b (marked v) (drew v ((count + 1) % 18446744073709551616))))
      by_case true is =
          let l : (count + 1) % 18446744073709551616 ≤ v.seen = grind (arith, nat_tests) in
          counts_marked books id v (marked v) at count ((count + 1) % 18446744073709551616) refl refl (λ low. omega arith) counts
      by_case false is =
          let l : v.seen < (count + 1) % 18446744073709551616 = grind (arith, nat_tests) in
          let e : suc count ≡ (count + 1) % 18446744073709551616 = omega arith in
          subst (λ (k : ℕ). Counts k (set books id (drew v k))) e (counts_drew books id v (drew v (suc count)) at count refl refl refl counts)

  pub look_counts : (count : ℕ) → Counts count books → Counts count (set books id (looked v count))
  look_counts count counts = by_case (nat_lt count v.seen) refl
    where
      by_case : (b : Bool) → nat_lt count v.seen ≡ b → Counts count (set books id (cond b (marked v) (saw v count)))
      by_case true is =
          let l : count < v.seen = grind (arith, nat_tests) in
          counts_marked books id v (marked v) at count count refl refl (λ low. absurd (omega arith)) counts
      by_case false is = counts_same books id v (saw v count) at count refl refl (omega arith) counts

  -- a halt that a book knows is one of the board
  pub flag_on : (flag : Bool) → KeepsHalt flag books → v.halted ≡ true → flag ≡ true
  flag_on true halts raised = refl
  flag_on false halts raised = let a = halts.unset refl in let b = weigh-at halt_of books id v at in let c : halt_of v ≡ 1 = ap bit raised in absurd (omega arith)
