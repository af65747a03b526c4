-- Stamps of a number below a place, and rising stamps.
use Rattle.std.proofs.Common.{◌≡◌, ℕ, suc, ◌+◌, ◌<◌, ◌≤◌, nat_le, Bool, true, false, cond, List, [], ◌∷◌, ◌++◌, length, refl, ap, arith}
use Rattle.std.proofs.lemmas.Slice.Eq.{bytes_eq-Decides}
use Rattle.std.proofs.lemmas.Bool.Decides.{nat_tests}
use Rattle.std.specs.Str.{bytes_eq}
use Rattle.std.specs.List.{AllByRecursion}
use mathlib.Core.Option.{some}
use lib.ListN.{get_elem?}
use Rattle.counted_items.specs.Weights.{weigh}
use Rattle.counted_items.proofs.Each.{each-append, each-weaker}
use Rattle.pass_numbers.specs.Numbers.{Numbered}
use Rattle.pass_numbers.proofs.Lists.{each-split-middle}
use Rattle.pass_numbers.proofs.Weights.{each-none}
use Rattle.pass_numbers.proofs.Numbering.{same_digits, has-none}
use Rattle.task_queues.specs.declared.rule.Book.{Book}
use Rattle.task_queues.specs.declared.rule.Stamped.{Stamped}
use Rattle.task_queues.specs.declared.rule.View.{View}
use Rattle.task_queues.specs.Books.{stamp, stamped_from, numbers_of}
use Rattle.task_queues.specs.Rule.{Below, Rises, Balanced}
use Rattle.task_queues.proofs.Weighed.{sent_weight, taken_weight, over_books, balanced_in, books-alone}

late-cases : (t : Bool) (from place : ℕ) → t ≡ nat_le from place → ◌≡◌ {A = ℕ} (cond t 1 0) 0 → place < from
late-cases true from place is e = absurd (omega arith)
late-cases false from place is e = grind (arith, nat_tests)

module _ {M : Type 0} where
  pub stamped-more : (h : Stamped M → ℕ) (digits : List ℕ) (place : ℕ) (xs : List M) (x : M) → weigh h (stamped_from digits place (xs ++ x ∷ [])) ≡ weigh h (stamped_from digits place xs) + h (stamp digits (length xs + place) x)
  stamped-more h digits place [] x = let e : h (stamp digits (0 + place) x) ≡ h (stamp digits place x) = ap (λ (k : ℕ). h (stamp digits k x)) (omega arith) in omega arith
  stamped-more h digits place (y ∷ xs) x =
      let e : h (stamp digits (length xs + suc place) x) ≡ h (stamp digits (suc (length xs) + place) x) = ap (λ (k : ℕ). h (stamp digits k x)) (omega arith) in
      omega (arith, stamped-more h digits (suc place) xs x)

  -- 1 for a stamp of this number whose place is not below `from`
  abbrev pub late : List ℕ → ℕ → Stamped M → ℕ
  late digits from s = cond (bytes_eq s.digits digits) (cond (nat_le from s.place) 1 0) 0

  late-below : (digits : List ℕ) (from : ℕ) (s : Stamped M) → late digits from s ≡ 0 → s.digits ≡ digits → s.place < from
  late-below digits from s none same =
      let yes : bytes_eq s.digits digits ≡ true = (bytes_eq-Decides s.digits digits).1 same in
      late-cases (nat_le from s.place) from s.place refl (rw yes at none)

  late-other : (digits : List ℕ) (from : ℕ) (other : List ℕ) (place : ℕ) (xs : List M) → bytes_eq other digits ≡ false → weigh (late digits from) (stamped_from other place xs) ≡ 0
  late-other digits from other place [] apart = refl
  late-other digits from other place (x ∷ xs) apart =
      let here : late digits from (stamp other place x) ≡ 0 = rw apart refl in
      let rest = late-other digits from other (suc place) xs apart in omega arith

  late-own : (digits : List ℕ) (from place : ℕ) (xs : List M) → length xs + place ≤ from → weigh (late digits from) (stamped_from digits place xs) ≡ 0
  late-own digits from place [] few = refl
  late-own digits from place (x ∷ xs) few =
      let here : late digits from (stamp digits place x) ≡ 0 = rw (same_digits digits) (grind (arith, nat_tests)) in
      let rest = late-own digits from (suc place) xs (omega arith) in omega arith

  pub all-below : (digits : List ℕ) (from : ℕ) (x : M) (stamps : List (Stamped M)) → weigh (late digits from) stamps ≡ 0 → AllByRecursion (λ (y : Stamped M). Below y (stamp digits from x)) stamps
  all-below digits from x stamps none = each-weaker (λ y. late digits from y ≡ 0) (λ y. Below y (stamp digits from x)) (late-below digits from) stamps (each-none (late digits from) stamps none)

  -- all stamps of a pass's first number that were taken or are held lie below its next place
  pub early : (held : List (Stamped M)) (views : List (View M)) (port : ℕ) (v : View M) (b : Book M) (bs : List (Book M)) → Balanced held views → Numbered numbers_of views → get_elem? views port ≡ some v → v.books ≡ b ∷ bs
      → (over_books (taken_weight (late b.number.digits (length b.sent))) views ≡ 0) × (weigh (late b.number.digits (length b.sent)) held ≡ 0)
  early held views port v b bs balanced numbered at is =
      let h = late b.number.digits (length b.sent) in
      let total = books-alone (sent_weight h) views port v b bs numbered at is (λ c none. late-other b.number.digits (length b.sent) c.number.digits 0 c.sent (has-none b.number.digits c.number none)) in
      let own : sent_weight h b ≡ 0 = late-own b.number.digits (length b.sent) 0 b.sent (omega arith) in
      let e = balanced_in held views balanced h in (omega arith, omega arith)

  -- ---- rising stamps

  pub Rises-more : (stamps : List (Stamped M)) (s : Stamped M) → Rises stamps → AllByRecursion (λ (y : Stamped M). Below y s) stamps → Rises (stamps ++ s ∷ [])
  Rises-more [] s rises below = (tt, tt)
  Rises-more (y ∷ stamps) s rises below = (each-append (Below y) stamps (s ∷ []) rises.0 (below.0, tt), Rises-more stamps s rises.1 below.1)

  pub Rises-skip : (xs : List (Stamped M)) (s : Stamped M) (stamps : List (Stamped M)) → Rises (xs ++ s ∷ stamps) → Rises (xs ++ stamps)
  Rises-skip [] s stamps rises = rises.1
  Rises-skip (x ∷ xs) s stamps rises = (each-split-middle (Below x) xs s stamps rises.0, Rises-skip xs s stamps rises.1)

  pub Rises-back : (xs stamps : List (Stamped M)) → Rises (xs ++ stamps) → Rises stamps
  Rises-back [] stamps rises = rises
  Rises-back (x ∷ xs) stamps rises = Rises-back xs stamps rises.1
