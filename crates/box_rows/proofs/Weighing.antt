-- What the books of a view weigh after a step.
use Rattle.std.proofs.Common.{◌≡◌, ◌≢◌, ◌<◌, ℕ, zero, suc, ◌+◌, List, [], ◌∷◌, ◌++◌, length, Some, None, get_or, set, sym, refl, ap, ◌∙◌, arith}
use Rattle.std.specs.Prelude.{slice_get}
use Rattle.event_worlds.specs.counted_items.Weights.{weigh}
use Rattle.event_worlds.proofs.counted_items.Weighing.{weigh-append, weigh-flat_map, weigh-same}
use Rattle.box_rows.specs.declared.mail.Mail.{Mail}
use Rattle.box_rows.specs.Mails.{weigh_mail}
use Rattle.box_rows.specs.Rows.{weigh_sent, weigh_taken}
use Rattle.task_queues.specs.Books.{sent_of, taken_of, sent_first, taken_first, kept_first, cut_first, stamped, stamped_from, sent_to, took, kept_of, cut_of, both_of}
use Rattle.task_queues.specs.declared.rule.Book.{Book}
use Rattle.task_queues.specs.declared.rule.Stamped.{Stamped}
use Rattle.task_queues.specs.declared.rule.View.{View}
use Rattle.event_worlds.specs.tuple_account.Histories.{Packet}

-- ---- lists in which one item changes

pub at-some : {X : Type 0} (xs : List X) (i : ℕ) (x : X) → i < length xs → x ≡ get_or xs i x → slice_get xs i ≡ Some x
at-some [] i x below is = absurd (omega arith)
at-some (y ∷ ys) zero x below is = ap (λ z. Some z) (sym is)
at-some (y ∷ ys) (suc i) x below is = at-some ys i x (omega arith) is

pub weigh-at : {X : Type 0} (f : X → ℕ) (xs : List X) (i : ℕ) (x y : X) → slice_get xs i ≡ Some x → weigh f (set xs i y) + f x ≡ weigh f xs + f y
weigh-at f [] i x y at = absurd (let e : None ≡ Some x = at in cc)
weigh-at f (z ∷ zs) zero x y at = let e : z ≡ x = let some : Some z ≡ Some x = at in cc in let d = ap f e in omega arith
weigh-at f (z ∷ zs) (suc i) x y at = let rest = weigh-at f zs i x y at in omega arith

module _ (f : Packet → ℕ) where
  abbrev of_stamp : Stamped Mail → ℕ
  of_stamp s = weigh_mail f s.item

  from-is : (digits : List ℕ) (place : ℕ) (xs : List Mail) → weigh of_stamp (stamped_from digits place xs) ≡ weigh (λ (x : Mail). weigh_mail f x) xs
  from-is digits place [] = refl
  from-is digits place (x ∷ xs) = let rest = from-is digits (suc place) xs in omega arith

  book-is : (b : Book Mail) → weigh of_stamp (stamped b) ≡ weigh (λ (x : Mail). weigh_mail f x) b.sent
  book-is b = from-is b.number.digits 0 b.sent

  sent-is : (books : List (Book Mail)) → weigh of_stamp (sent_of books) ≡ weigh (λ (b : Book Mail). weigh (λ (x : Mail). weigh_mail f x) b.sent) books
  sent-is books = weigh-flat_map of_stamp stamped books ∙ weigh-same (λ (b : Book Mail). weigh of_stamp (stamped b)) (λ (b : Book Mail). weigh (λ (x : Mail). weigh_mail f x) b.sent) book-is books

  taken-is : (books : List (Book Mail)) → weigh of_stamp (taken_of books) ≡ weigh (λ (b : Book Mail). weigh of_stamp b.taken) books
  taken-is books = weigh-flat_map of_stamp (λ (b : Book Mail). b.taken) books

  -- ---- a message more

  sent_more : (books : List (Book Mail)) (x : Mail) → books ≢ [] → weigh of_stamp (sent_of (sent_first books x)) ≡ weigh of_stamp (sent_of books) + weigh_mail f x
  sent_more [] x some_book = absurd (some_book refl)
  sent_more (b ∷ bs) x some_book =
      let s = sent-is (b ∷ bs) in
      let n = sent-is (sent_first (b ∷ bs) x) in
      let a = weigh-append (λ (y : Mail). weigh_mail f y) b.sent (x ∷ []) in omega arith

  sent_taken : (books : List (Book Mail)) (x : Mail) → weigh of_stamp (taken_of (sent_first books x)) ≡ weigh of_stamp (taken_of books)
  sent_taken [] x = refl
  sent_taken (b ∷ bs) x = refl

  taken_more : (books : List (Book Mail)) (s : Stamped Mail) → books ≢ [] → weigh of_stamp (taken_of (taken_first books s)) ≡ weigh of_stamp (taken_of books) + of_stamp s
  taken_more [] s some_book = absurd (some_book refl)
  taken_more (b ∷ bs) s some_book =
      let t = taken-is (b ∷ bs) in
      let n = taken-is (taken_first (b ∷ bs) s) in
      let a = weigh-append of_stamp b.taken (s ∷ []) in omega arith

  taken_sent : (books : List (Book Mail)) (s : Stamped Mail) → weigh of_stamp (sent_of (taken_first books s)) ≡ weigh of_stamp (sent_of books)
  taken_sent [] s = refl
  taken_sent (b ∷ bs) s = refl

  pub view_sends : (v : View Mail) (x : Mail) → v.books ≢ [] → (weigh_sent f (sent_to v x) ≡ weigh_sent f v + weigh_mail f x) × (weigh_taken f (sent_to v x) ≡ weigh_taken f v)
  view_sends v x some_book = (sent_more v.books x some_book, sent_taken v.books x)

  pub view_takes : (v : View Mail) (s : Stamped Mail) → v.books ≢ [] → (weigh_sent f (took v s) ≡ weigh_sent f v) × (weigh_taken f (took v s) ≡ weigh_taken f v + weigh_mail f s.item)
  view_takes v s some_book = (taken_sent v.books s, taken_more v.books s some_book)

  -- ---- splits and joins

  kept_sent : (books : List (Book Mail)) → weigh of_stamp (sent_of (kept_first books)) ≡ weigh of_stamp (sent_of books)
  kept_sent [] = refl
  kept_sent (b ∷ bs) = refl

  kept_taken : (books : List (Book Mail)) → weigh of_stamp (taken_of (kept_first books)) ≡ weigh of_stamp (taken_of books)
  kept_taken [] = refl
  kept_taken (b ∷ bs) = refl

  cut_none : (books : List (Book Mail)) → (weigh of_stamp (sent_of (cut_first books)) ≡ 0) × (weigh of_stamp (taken_of (cut_first books)) ≡ 0)
  cut_none [] = (refl, refl)
  cut_none (b ∷ bs) = (refl, refl)

  pub view_keeps : (v : View Mail) → (weigh_sent f (kept_of v) ≡ weigh_sent f v) × (weigh_taken f (kept_of v) ≡ weigh_taken f v)
  view_keeps v = (kept_sent v.books, kept_taken v.books)

  pub view_cuts : (v : View Mail) → (weigh_sent f (cut_of v) ≡ 0) × (weigh_taken f (cut_of v) ≡ 0)
  view_cuts v = cut_none v.books

  pub view_joins : (v w : View Mail) → (weigh_sent f (both_of v w) ≡ weigh_sent f v + weigh_sent f w) × (weigh_taken f (both_of v w) ≡ weigh_taken f v + weigh_taken f w)
  view_joins v w = (
    (let x = sent-is (v.books ++ w.books) in let y = sent-is v.books in let z = sent-is w.books in
        let a = weigh-append (λ (b : Book Mail). weigh (λ (x : Mail). weigh_mail f x) b.sent) v.books w.books in omega arith),
    (let x = taken-is (v.books ++ w.books) in let y = taken-is v.books in let z = taken-is w.books in
        let a = weigh-append (λ (b : Book Mail). weigh of_stamp b.taken) v.books w.books in omega arith),
  )
