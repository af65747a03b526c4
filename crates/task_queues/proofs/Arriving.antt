-- With one taker, what arrives of each sender is what it sent, in its order, whole and once.
use Rattle.std.proofs.Common.{◌≡◌, ℕ, zero, suc, ◌<◌, ◌≤◌, List, [], ◌∷◌, ◌++◌, length, get_or, sym, refl, ap, subst, arith}
use Rattle.std.specs.List.{AllByRecursion}
use Rattle.std.specs.Coded.{Coded}
use mathlib.Core.Option.{some, some-injective, some-ne-none}
use lib.ListN.{get_elem?}
use Rattle.counted_items.specs.Weights.{weigh, Same}
use Rattle.counted_items.proofs.Weighing.{weigh-none, weigh-map}
use Rattle.pass_numbers.specs.Numbers.{has, IsWhole}
use Rattle.pass_numbers.proofs.Weights.{weigh-at}
use Rattle.pass_numbers.proofs.Numbering.{has-le, has_self, has-none, one_numbered}
use Rattle.task_queues.specs.declared.rule.Book.{Book}
use Rattle.task_queues.specs.declared.rule.Stamped.{Stamped}
use Rattle.task_queues.specs.Books.{stamped, sent_of, taken_of, numbers_in}
use Rattle.task_queues.specs.Rule.{Rises}
use Rattle.task_queues.specs.Whole.{stamps_under, Arrives, HasOneTaker}
use Rattle.task_queues.proofs.Weighed.{sent_weight, sent-is}
use Rattle.task_queues.proofs.Order.{under, weigh-under, Rises-under, under-are, sent-rises, sent-are, sent-under, sent-other, rising_same}

module _ {X : Type 0} where
  -- where g counts one item at most, and f weighs nothing where g counts nothing, f weighs what that item weighs
  weigh-once : (f g : X → ℕ) → ((x : X) → g x ≡ 0 → f x ≡ 0) → (xs : List X) (i : ℕ) (x : X) → get_elem? xs i ≡ some x → weigh g xs ≤ 1 → 1 ≤ g x → weigh f xs ≡ f x
  weigh-once f g step [] i x at few here = absurd (some-ne-none x (sym at))
  weigh-once f g step (y ∷ xs) zero x at few here =
      let is = some-injective y x at in
      let e : g y ≡ g x = ap g is in
      let d : f y ≡ f x = ap f is in
      let rest = weigh-none f g step xs (omega arith) in omega arith
  weigh-once f g step (y ∷ xs) (suc i) x at few here =
      let l = weigh-at g xs i x at in
      let none = step y (omega arith) in
      let rest = weigh-once f g step xs i x at (omega arith) here in omega arith

  each-from : (P : X → Type 0) (xs : List X) → ((i : ℕ) (x : X) → get_elem? xs i ≡ some x → P x) → AllByRecursion P xs
  each-from P [] each = tt
  each-from P (x ∷ xs) each = (each 0 x refl, each-from P xs (λ i y at. each (suc i) y at))

  each-get : (P : X → Type 0) (xs : List X) (k : ℕ) (x : X) → AllByRecursion P xs → k < length xs → P (get_or xs k x)
  each-get P [] k x all l = absurd (omega arith)
  each-get P (y ∷ xs) zero x all l = all.0
  each-get P (y ∷ xs) (suc k) x all l = each-get P xs k x all.1 (omega arith)

module _ {M : Type 0} (coded : Coded M) (books : List (Book M)) (held : List (Stamped M)) (whole : IsWhole (numbers_in books)) (all : Same (sent_of books) (taken_of books ++ held)) (above : AllByRecursion (λ (b : Book M). Rises (b.taken ++ held)) books) (taker : HasOneTaker books) where
  abbrev came : List (Stamped M)
  came = taken_of books ++ held

  came_rises : Rises came
  came_rises =
      let k = taker.0 in
      let b = taker.1 in
      let at = each-get (λ (c : Book M). Rises (c.taken ++ held)) books k b above taker.2 in
      let mine : Rises (b.taken ++ held) = subst (λ (c : Book M). Rises (c.taken ++ held)) taker.3 at in
      subst (λ (stamps : List (Stamped M)). Rises (stamps ++ held)) (sym taker.4) mine

  -- one book has the number
  once : (q : List ℕ) → weigh (λ (b : Book M). has q b.number) books ≤ 1
  once q =
      let few = has-le numbers_in (books ∷ []) (one_numbered numbers_in books whole) q in
      let e = weigh-map (has q) (λ (b : Book M). b.number) books in omega arith

  other_weight : (f : Stamped M → ℕ) (q : List ℕ) (c : Book M) → has q c.number ≡ 0 → sent_weight (under f q) c ≡ 0
  other_weight f q c none = sent-other f q c.number.digits 0 c.sent (has-none q c.number none)

  one_book : (i : ℕ) (b : Book M) → get_elem? books i ≡ some b → stamps_under b.number.digits came ≡ stamped b
  one_book i b at =
      let q = b.number.digits in
      let same : Same (stamps_under q came) (stamped b) = λ f.
      let a = weigh-under f q came in
      let e = all (under f q) in
      let s = sent-is (under f q) books in
      let self = has_self b.number in
      let o = weigh-once (sent_weight (under f q)) (λ (c : Book M). has q c.number) (other_weight f q) books i b at (once q) (omega arith) in
      let u = sent-under f q 0 b.sent in omega arith in
      rising_same coded q (stamps_under q came) (stamped b) (under-are q came) (sent-are q 0 b.sent) (Rises-under q came came_rises) (sent-rises q 0 b.sent) same

  pub arrives : Arrives books came
  arrives = each-from (λ (b : Book M). stamps_under b.number.digits came ≡ stamped b) books one_book
