-- Each record is taken once at most.
use Rattle.std.proofs.Common.{◌≡◌, ℕ, ◌+◌, ◌≤◌, Bool, true, false, cond, List, [], ◌∷◌, ◌++◌, length, refl, sym, ap, ◌∙◌, arith}
use Rattle.std.specs.List.{AllByRecursion}
use Rattle.record_spans.specs.declared.span.Span.{Span}
use Rattle.record_spans.specs.Spans.{stands_in}
use Rattle.record_offers.specs.Offers.{is_gone}
use Rattle.taken_records.specs.Taken.{AreTaken, IsBatch, marked, one_if, times_in}
use Rattle.taken_records.proofs.Marking.{gone_marked, marked_length}

-- ---- a batch among others

pub times_among : (before after : List (List Span)) (spans : List Span) (n : ℕ)
    → times_in (before ++ spans ∷ after) n ≡ one_if (stands_in spans n) + times_in (before ++ after) n
times_among [] after spans n = refl
times_among (other ∷ before) after spans n = let rest = times_among before after spans n in omega (arith, rest)

pub times_append : (xs ys : List (List Span)) (n : ℕ) → times_in (xs ++ ys) n ≡ times_in xs n + times_in ys n
times_append [] ys n = omega arith
times_append (x ∷ xs) ys n = let rest = times_append xs ys n in omega (arith, rest)

module _ {X : Type 0} (P : X → Type 0) where
  all_among : (before after : List X) (x : X) → P x → AllByRecursion P (before ++ after) → AllByRecursion P (before ++ x ∷ after)
  all_among [] after x is all = (is, all)
  all_among (y ∷ before) after x is all = (all.0, all_among before after x is all.1)

  all_without : (before after : List X) (x : X) → AllByRecursion P (before ++ x ∷ after) → AllByRecursion P (before ++ after)
  all_without [] after x all = all.1
  all_without (y ∷ before) after x all = (all.0, all_without before after x all.1)

  one_of : (before after : List X) (x : X) → AllByRecursion P (before ++ x ∷ after) → P x
  one_of [] after x all = all.0
  one_of (y ∷ before) after x all = one_of before after x all.1

  pub all_left : (xs ys : List X) → AllByRecursion P (xs ++ ys) → AllByRecursion P xs
  all_left [] ys all = tt
  all_left (x ∷ xs) ys all = (all.0, all_left xs ys all.1)

  pub all_right : (xs ys : List X) → AllByRecursion P (xs ++ ys) → AllByRecursion P ys
  all_right [] ys all = all
  all_right (x ∷ xs) ys all = all_right xs ys all.1

  pub all_both : (xs ys : List X) → AllByRecursion P xs → AllByRecursion P ys → AllByRecursion P (xs ++ ys)
  all_both [] ys all more = more
  all_both (x ∷ xs) ys all more = (all.0, all_both xs ys all.1 more)

-- ---- marks

yes_if : (b : Bool) → one_if b ≤ 1
yes_if true = omega arith
yes_if false = omega arith

pub first_taken : (began : List Bool) (size : ℕ) → AreTaken began began size []
first_taken began size = record { marks = refl; batches = tt; once = λ n first last. omega arith }

pub one_taken : (began gone : List Bool) (size : ℕ) (before after : List (List Span)) (spans : List Span) → AreTaken began gone size (before ++ after)
    → IsBatch (length began) size spans → ((n : ℕ) → stands_in spans n ≡ true → is_gone gone n ≡ false)
    → AreTaken began (marked true spans gone) size (before ++ spans ∷ after)
one_taken began gone size before after spans taken batch left = record {
  marks = marked_length true spans 1 gone ∙ taken.marks;
  batches = all_among (IsBatch (length began) size) before after spans batch taken.batches;
  once = once;
}
  where
    by : (b : Bool) (was began_ more : ℕ) (gone_ : Bool) → (b ≡ true → gone_ ≡ false) → one_if gone_ ≡ began_ + more → one_if (cond b true gone_) ≡ began_ + (one_if b + more)
    by true was began_ more gone_ free same = let none : one_if gone_ ≡ 0 = ap one_if (free refl) in omega (arith, same, none)
    by false was began_ more gone_ free same = omega (arith, same)

    once : (n : ℕ) → 1 ≤ n → n ≤ length began → one_if (is_gone (marked true spans gone) n) ≡ one_if (is_gone began n) + times_in (before ++ spans ∷ after) n
    once n first last =
        let marks = taken.marks in
        ap one_if (gone_marked spans true gone n first (omega (arith, last, marks)))
        ∙ by (stands_in spans n) 0 (one_if (is_gone began n)) (times_in (before ++ after) n) (is_gone gone n) (left n) (taken.once n first last)
        ∙ ap (λ k. one_if (is_gone began n) + k) (sym (times_among before after spans n))

pub one_back : (began gone : List Bool) (size : ℕ) (before after : List (List Span)) (spans : List Span) → AreTaken began gone size (before ++ spans ∷ after)
    → AreTaken began (marked false spans gone) size (before ++ after)
one_back began gone size before after spans taken = record {
  marks = marked_length false spans 1 gone ∙ taken.marks;
  batches = all_without (IsBatch (length began) size) before after spans taken.batches;
  once = once;
}
  where
    by : (b : Bool) (began_ more : ℕ) (gone_ : Bool) → one_if gone_ ≡ began_ + (one_if b + more) → one_if (cond b false gone_) ≡ began_ + more
    by true began_ more gone_ same = let most = yes_if gone_ in omega (arith, same, most)
    by false began_ more gone_ same = omega (arith, same)

    once : (n : ℕ) → 1 ≤ n → n ≤ length began → one_if (is_gone (marked false spans gone) n) ≡ one_if (is_gone began n) + times_in (before ++ after) n
    once n first last =
        let marks = taken.marks in
        ap one_if (gone_marked spans false gone n first (omega (arith, last, marks)))
        ∙ by (stands_in spans n) (one_if (is_gone began n)) (times_in (before ++ after) n) (is_gone gone n)
        (taken.once n first last ∙ ap (λ k. one_if (is_gone began n) + k) (times_among before after spans n))

pub one_moved : (began gone : List Bool) (size : ℕ) (done before after : List (List Span)) (spans : List Span)
    → AreTaken began gone size (done ++ (before ++ spans ∷ after)) → AreTaken began gone size ((done ++ spans ∷ []) ++ (before ++ after))
one_moved began gone size done before after spans taken = record {
  marks = taken.marks;
  batches = all_both P (done ++ spans ∷ []) (before ++ after)
      (all_both P done (spans ∷ []) (all_left P done rest taken.batches) (one_of P before after spans (all_right P done rest taken.batches), tt))
      (all_without P before after spans (all_right P done rest taken.batches));
  once = λ n first last.
      let a = times_append done rest n in
      let b = times_among before after spans n in
      let c = times_append (done ++ spans ∷ []) (before ++ after) n in
      let d = times_append done (spans ∷ []) n in
      let was = taken.once n first last in
      omega (arith, a, b, c, d, was);
}
  where
    P : List Span → Type 0
    P = IsBatch (length began) size

    rest : List (List Span)
    rest = before ++ spans ∷ after

pub once_at_most : (began gone : List Bool) (size : ℕ) (taken : List (List Span)) (n : ℕ) → AreTaken began gone size taken → 1 ≤ n → n ≤ length began
    → one_if (is_gone began n) + times_in taken n ≤ 1
once_at_most began gone size taken n are first last =
    let is = are.once n first last in
    let most = yes_if (is_gone gone n) in
    omega (arith, is, most)
