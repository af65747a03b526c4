-- What send and take answer to a pass with all numbers, and the passes that a caller holds.
use Rattle.std.proofs.Common.{◌≡◌, ◌≢◌, ℕ, ◌+◌, ◌↔◌, false, true≢false, List, [], ◌∷◌, ◌++◌, length, length-append, sym, refl, ap, subst, ◌∙◌, arith}
use Rattle.std.specs.Prelude.{Option, Some, None, Result, Ok, Err, IsErr, IsNone, IfSome, MatchResult, MatchOption}
use Rattle.crossbeam_queue.specs.Fifo.{Held}
use Rattle.counted_items.specs.Weights.{Same}
use Rattle.counted_items.proofs.Weighing.{weigh-append}
use Rattle.pass_numbers.specs.Numbers.{kept_numbers, cut_numbers, IsWhole, Numbered}
use Rattle.pass_numbers.proofs.Lists.{map-append, some-append}
use Rattle.pass_numbers.proofs.Numbering.{split_beside, join_beside}
use Rattle.topology_plan.specs.Topology.{Topology}
use Rattle.task_queues.specs.declared.rule.Book.{Book}
use Rattle.task_queues.specs.declared.rule.Stamped.{Stamped}
use Rattle.task_queues.specs.declared.rule.View.{View}
use Rattle.task_queues.specs.Books.{no_view, sent_of, taken_of, sent_first, taken_first, took, kept_first, cut_first, kept_of, cut_of, both_of, numbers_in, numbers_of}
use Rattle.task_queues.specs.Rule.{items_of, Stood}
use Rattle.task_queues.specs.Steps.{SendsOne, IsNext, TakesOne}
use Rattle.task_queues.proofs.Whole.{same-length, whole_balanced, whole_left}

module _ {M : Type 0} (is_true : Topology → ℕ → M → Type 0) where
  pub send_whole : {A : Type 0} (n : ℕ) (v w : View M) (x : M) (r : Result A M) → MatchResult r (λ _. SendsOne v x w) (λ y. (y ≡ x) × (w ≡ v) × Held n (Stood is_true v)) → v.capacity ≡ n
      → IsWhole (numbers_of v) → IsErr r ↔ (length (sent_of v.books) ≡ length (taken_of v.books) + v.capacity)
  send_whole n v w x (Ok a) sent room whole = ((λ bad. absurd (true≢false (sym bad))), λ full. let e = sent.1 whole in absurd (omega arith))
  send_whole n v w x (Err y) back room whole =
      let stood = back.2.2 in
      let e = whole_left is_true back.2.0 stood.views stood.kept stood.pass v stood.here whole in
      let f = back.2.1 in ((λ bad. omega arith), λ full. refl)

  pub take_whole : (v w : View M) (r : Option M) → MatchOption r ((w ≡ v) × Held 0 (Stood is_true v)) (λ x. TakesOne is_true v x w)
      → IsWhole (numbers_of v) → IsNone r ↔ Same (sent_of v.books) (taken_of v.books)
  take_whole v w (Some x) taken whole = (
    (λ bad. absurd (true≢false bad)),
    λ same.
        let next = taken.4 in
        let e = same-length (sent_of v.books) (taken_of v.books ++ taken.0 ∷ next.rest) (next.whole whole) in
        let f = same-length (sent_of v.books) (taken_of v.books) same in
        let a = length-append (taken_of v.books) (taken.0 ∷ next.rest) in absurd (omega arith),
  )
  take_whole v w None none whole =
      let stood = none.1.2 in
      let balanced = whole_balanced is_true none.1.0 stood.views stood.kept stood.pass v stood.here whole in
      ((λ bad. nothing_held none.1.0 stood.kept.held stood.kept.held_are none.1.1 balanced), λ same. refl)
    where
      nothing_held : (items : List M) (held : List (Stamped M)) → items_of held ≡ items → length items ≡ 0 → Same (sent_of v.books) (taken_of v.books ++ held) → Same (sent_of v.books) (taken_of v.books)
      nothing_held items [] are few same = λ f. same f ∙ (let a = weigh-append f (taken_of v.books) [] in omega arith)
      nothing_held items (s ∷ held) are few same = let e = ap length are in absurd (omega arith)

  pub take_stamp : (v w : View M) (r : Option M) → MatchOption r ((w ≡ v) × Held 0 (Stood is_true v)) (λ x. TakesOne is_true v x w)
      → IfSome r (λ m. (s : Stamped M) × (s.item ≡ m) × (w ≡ took v s) × IsNext is_true v s)
  take_stamp v w (Some x) taken = (taken.0, taken.1, taken.2, taken.4)
  take_stamp v w None none = tt

module _ {M : Type 0} where
  sent_numbers : (bs : List (Book M)) (x : M) → numbers_in (sent_first bs x) ≡ numbers_in bs
  sent_numbers [] x = refl
  sent_numbers (b ∷ bs) x = refl

  taken_numbers : (bs : List (Book M)) (s : Stamped M) → numbers_in (taken_first bs s) ≡ numbers_in bs
  taken_numbers [] s = refl
  taken_numbers (b ∷ bs) s = refl

  -- a step leaves a pass its numbers
  pub send_numbers : {A : Type 0} (H : Type 0) (v w : View M) (x : M) (r : Result A M) → MatchResult r (λ _. SendsOne v x w) (λ y. (y ≡ x) × (w ≡ v) × H) → numbers_of w ≡ numbers_of v
  send_numbers H v w x (Ok a) sent = ap numbers_of sent.0 ∙ sent_numbers v.books x
  send_numbers H v w x (Err y) back = ap numbers_of back.1

  pub take_numbers : (is_true : Topology → ℕ → M → Type 0) (H : Type 0) (v w : View M) (r : Option M) → MatchOption r ((w ≡ v) × H) (λ x. TakesOne is_true v x w) → numbers_of w ≡ numbers_of v
  take_numbers is_true H v w (Some x) taken = ap numbers_of taken.2 ∙ taken_numbers v.books taken.0
  take_numbers is_true H v w None none = ap numbers_of none.0

  kept_is : (bs : List (Book M)) → numbers_in (kept_first bs) ≡ kept_numbers (numbers_in bs)
  kept_is [] = refl
  kept_is (b ∷ bs) = refl

  cut_is : (bs : List (Book M)) → numbers_in (cut_first bs) ≡ cut_numbers (numbers_in bs)
  cut_is [] = refl
  cut_is (b ∷ bs) = refl

  some_number : (bs : List (Book M)) → bs ≢ [] → numbers_in bs ≢ []
  some_number [] some_book nil = some_book refl
  some_number (b ∷ bs) some_book nil = cc

  pub split_others : (v x r : View M) (others : List (View M)) → v.books ≢ [] → x ≡ kept_of v → r ≡ cut_of v → Numbered numbers_of (v ∷ others) → Numbered numbers_of (x ∷ r ∷ others)
  split_others v x r others some_book kept cut =
      split_beside numbers_of no_view refl v x r others (some_number v.books some_book) (ap numbers_of kept ∙ kept_is v.books) (ap numbers_of cut ∙ cut_is v.books)

  pub join_others : (v u x : View M) (others : List (View M)) → x ≡ both_of v u → Numbered numbers_of (v ∷ u ∷ others) → Numbered numbers_of (x ∷ others)
  join_others v u x others is = join_beside numbers_of v u x others (ap numbers_of is ∙ map-append (λ (b : Book M). b.number) v.books u.books)

  pub joined_fresh : (v u x : View M) → v.fresh ≡ false → x ≡ both_of v u → x.fresh ≡ false
  joined_fresh v u x named is = ap (λ (z : View M). z.fresh) is ∙ named

  pub joined_some : (v u x : View M) → v.books ≢ [] → x ≡ both_of v u → x.books ≢ []
  joined_some v u x some_book is = subst (λ (z : View M). z.books ≢ []) (sym is) (some-append v.books u.books some_book)
