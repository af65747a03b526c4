-- What the stamps in all books weigh.
use Rattle.std.proofs.Common.{◌≡◌, ℕ, ◌+◌, List, [], ◌∷◌, ◌++◌, set, sym, refl, ap, ◌∙◌, arith}
use Rattle.std.specs.List.{flat_map}
use mathlib.Core.Option.{some}
use lib.ListN.{get_elem?}
use Rattle.counted_items.specs.Weights.{weigh}
use Rattle.counted_items.proofs.Weighing.{weigh-append, weigh-flat_map, weigh-map, weigh-none, weigh-same}
use Rattle.pass_numbers.specs.Numbers.{has, Numbered}
use Rattle.pass_numbers.proofs.Weights.{weigh-set, weigh-set-append}
use Rattle.pass_numbers.proofs.Numbering.{alone}
use Rattle.task_queues.specs.declared.rule.Book.{Book}
use Rattle.task_queues.specs.declared.rule.Stamped.{Stamped}
use Rattle.task_queues.specs.declared.rule.View.{View}
use Rattle.task_queues.specs.Books.{stamped, sent_of, taken_of, numbers_in, numbers_of, no_view}
use Rattle.task_queues.specs.Rule.{Balanced}

module _ {M : Type 0} where
  abbrev pub sent_weight : (Stamped M → ℕ) → Book M → ℕ
  sent_weight h b = weigh h (stamped b)

  abbrev pub taken_weight : (Stamped M → ℕ) → Book M → ℕ
  taken_weight h b = weigh h b.taken

  -- a weight over the books of a view, and over those of all views
  abbrev pub in_view : (Book M → ℕ) → View M → ℕ
  in_view f v = weigh f v.books

  abbrev pub over_books : (Book M → ℕ) → List (View M) → ℕ
  over_books f views = weigh (in_view f) views

  -- ---- stamps and books

  pub sent-is : (h : Stamped M → ℕ) (books : List (Book M)) → weigh h (sent_of books) ≡ weigh (sent_weight h) books
  sent-is h books = weigh-flat_map h stamped books

  pub taken-is : (h : Stamped M → ℕ) (books : List (Book M)) → weigh h (taken_of books) ≡ weigh (taken_weight h) books
  taken-is h books = weigh-flat_map h (λ (b : Book M). b.taken) books

  all-sent : (h : Stamped M → ℕ) (views : List (View M)) → weigh h (flat_map (λ (v : View M). sent_of v.books) views) ≡ over_books (sent_weight h) views
  all-sent h views = weigh-flat_map h (λ (v : View M). sent_of v.books) views ∙ weigh-same (λ (v : View M). weigh h (sent_of v.books)) (in_view (sent_weight h)) (λ v. sent-is h v.books) views

  all-taken : (h : Stamped M → ℕ) (views : List (View M)) → weigh h (flat_map (λ (v : View M). taken_of v.books) views) ≡ over_books (taken_weight h) views
  all-taken h views = weigh-flat_map h (λ (v : View M). taken_of v.books) views ∙ weigh-same (λ (v : View M). weigh h (taken_of v.books)) (in_view (taken_weight h)) (λ v. taken-is h v.books) views

  -- what was sent weighs what was taken and what is held
  pub balanced_in : (held : List (Stamped M)) (views : List (View M)) → Balanced held views → (h : Stamped M → ℕ) → over_books (sent_weight h) views ≡ over_books (taken_weight h) views + weigh h held
  balanced_in held views balanced h =
      let e = balanced h in
      let s = all-sent h views in
      let t = all-taken h views in
      let a = weigh-append h (flat_map (λ (v : View M). taken_of v.books) views) held in omega arith

  pub balanced_out : (held : List (Stamped M)) (views : List (View M)) → ((h : Stamped M → ℕ) → over_books (sent_weight h) views ≡ over_books (taken_weight h) views + weigh h held) → Balanced held views
  balanced_out held views weighs h =
      let e = weighs h in
      let s = all-sent h views in
      let t = all-taken h views in
      let a = weigh-append h (flat_map (λ (v : View M). taken_of v.books) views) held in omega arith

  -- ---- views in which one changes

  pub books-set : (f : Book M → ℕ) (views : List (View M)) (port : ℕ) (v w : View M) → get_elem? views port ≡ some v → over_books f (set views port w) + in_view f v ≡ over_books f views + in_view f w
  books-set f views port v w at = weigh-set (in_view f) views port v w at

  pub books-set-append : (f : Book M → ℕ) (views : List (View M)) (port : ℕ) (v w r : View M) → get_elem? views port ≡ some v → over_books f (set views port w ++ r ∷ []) + in_view f v ≡ over_books f views + in_view f w + in_view f r
  books-set-append f views port v w r at = weigh-set-append (in_view f) views port v w r at

  -- ---- weights that only books of one number have

  number_none : (f : Book M → ℕ) (q : List ℕ) → ((b : Book M) → has q b.number ≡ 0 → f b ≡ 0) → (bs : List (Book M)) → weigh (has q) (numbers_in bs) ≡ 0 → weigh f bs ≡ 0
  number_none f q step bs none = weigh-none f (λ b. has q b.number) step bs (sym (weigh-map (has q) (λ (b : Book M). b.number) bs) ∙ none)

  -- such a weight is that of the one book
  pub books-alone : (f : Book M → ℕ) (views : List (View M)) (port : ℕ) (v : View M) (b : Book M) (bs : List (Book M)) → Numbered numbers_of views → get_elem? views port ≡ some v → v.books ≡ b ∷ bs
      → ((c : Book M) → has b.number.digits c.number ≡ 0 → f c ≡ 0) → over_books f views ≡ f b
  books-alone f views port v b bs numbered at is step =
      let none = alone numbers_of no_view refl views port v b.number (numbers_in bs) numbered at (ap numbers_in is) in
      let others : over_books f (set views port no_view) ≡ 0 = weigh-none (in_view f) (λ (u : View M). weigh (has b.number.digits) (numbers_of u)) (λ u. number_none f b.number.digits step u.books) (set views port no_view) none.0 in
      let rest = number_none f b.number.digits step bs none.1 in
      let moved = books-set f views port v no_view at in
      let own : in_view f v ≡ f b + weigh f bs = ap (weigh f) is in omega arith
