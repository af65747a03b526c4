-- Batches that come back, and batches in the order of their transactions.
use Rattle.std.proofs.Common.{◌≡◌, ℕ, zero, suc, ◌+◌, ◌-◌, ◌<◌, nat_lt, Bool, true, false, not, cond, List, [], ◌∷◌, ◌++◌, length, map, filter, take, drop, refl, sym, ap, subst, ◌∙◌, arith}
use Rattle.std.proofs.lemmas.Bool.Decides.{nat_tests}
use Rattle.std.proofs.lemmas.List.{append_assoc, map-append, take-append-drop}
use Rattle.record_spans.specs.declared.span.Span.{Span}
use Rattle.taken_records.specs.Taken.{AreTaken, StayFronts, marked, put_back}
use Rattle.taken_records.proofs.Fronting.{stay_before}
use Rattle.taken_records.proofs.Taking.{one_back}

-- ---- batches that come back

module _ {X : Type 0} (spans_of : X → List Span) (p : X → Bool) (began : List Bool) (size : ℕ) where
  pub back_where : (gone : List Bool) (done : List (List Span)) (pending : List X) → AreTaken began gone size (done ++ map spans_of pending)
      → AreTaken began (put_back (map spans_of (filter p pending)) gone) size (done ++ map spans_of (filter (λ x. not (p x)) pending))
  back_where gone done [] taken = taken
  back_where gone done (x ∷ pending) taken =
      by (p x) (λ back. back_where (marked false (spans_of x) gone) done pending back)
      (λ kept. back_where gone (done ++ spans_of x ∷ []) pending kept)
    where
      left : List (List Span)
      left = map spans_of (filter (λ y. not (p y)) pending)

      by : (b : Bool)
          → (AreTaken began (marked false (spans_of x) gone) size (done ++ map spans_of pending)
          → AreTaken began (put_back (map spans_of (filter p pending)) (marked false (spans_of x) gone)) size (done ++ map spans_of (filter (λ y. not (p y)) pending)))
          → (AreTaken began gone size ((done ++ spans_of x ∷ []) ++ map spans_of pending)
          → AreTaken began (put_back (map spans_of (filter p pending)) gone) size ((done ++ spans_of x ∷ []) ++ map spans_of (filter (λ y. not (p y)) pending)))
          → AreTaken began (put_back (map spans_of (cond b (x ∷ filter p pending) (filter p pending))) gone) size
          (done ++ map spans_of (cond (not b) (x ∷ filter (λ y. not (p y)) pending) (filter (λ y. not (p y)) pending)))
      by true back kept = back (one_back began gone size done (map spans_of pending) (spans_of x) taken)
      by false back kept =
          subst (λ xs. AreTaken began (put_back (map spans_of (filter p pending)) gone) size xs)
          (append_assoc done (spans_of x ∷ []) (map spans_of (filter (λ y. not (p y)) pending)))
          (kept (subst (AreTaken began gone size) (sym (append_assoc done (spans_of x ∷ []) (map spans_of pending))) taken))

-- ---- fronts of the first of them

pub stay_first_of : {X : Type 0} (spans_of : X → List Span) (partitions records : ℕ) (passed : ℕ → Bool) (done : List (List Span)) (pending : List X) (k : ℕ)
    → StayFronts partitions records passed (done ++ map spans_of pending) → StayFronts partitions records passed (done ++ map spans_of (take k pending))
stay_first_of spans_of partitions records passed done pending k stay =
    stay_before partitions records passed (done ++ map spans_of (take k pending)) (map spans_of (drop k pending))
    (subst (StayFronts partitions records passed)
    (ap (λ xs. done ++ map spans_of xs) (sym (take-append-drop k pending))
    ∙ ap (λ xs. done ++ xs) (map-append spans_of (take k pending) (drop k pending))
    ∙ sym (append_assoc done (map spans_of (take k pending)) (map spans_of (drop k pending))))
    stay)

-- ---- transactions in a row

module _ {X : Type 0} (txid_of : X → ℕ) where
  -- their transactions are the next ones, one after another
  abbrev pub InRow : ℕ → List X → Type 0
  InRow next [] = Unit {0}
  InRow next (x ∷ xs) = (txid_of x ≡ next) × InRow (next + 1) xs

  pub row_push : (next : ℕ) (xs : List X) (x : X) → InRow next xs → txid_of x ≡ next + length xs → InRow next (xs ++ x ∷ [])
  row_push next [] x row is = (omega (arith, is), tt)
  row_push next (y ∷ xs) x row is = (row.0, row_push (next + 1) xs x row.1 (omega (arith, is)))

  pub row_take : (next k : ℕ) (xs : List X) → InRow next xs → InRow next (take k xs)
  row_take next zero xs row = tt
  row_take next (suc k) [] row = tt
  row_take next (suc k) (x ∷ xs) row = (row.0, row_take (next + 1) k xs row.1)

  -- those of a lower transaction are the first ones
  pub row_below : (next txid : ℕ) (xs : List X) → InRow next xs → filter (λ x. nat_lt (txid_of x) txid) xs ≡ take (txid - next) xs
  row_below next txid [] row = by (txid - next)
    where
      by : (k : ℕ) → ◌≡◌ {A = List X} [] (take k [])
      by zero = refl
      by (suc k) = refl
  row_below next txid (x ∷ xs) row = by (nat_lt (txid_of x) txid) refl (row_below (next + 1) txid xs row.1)
    where
      by : (b : Bool) → nat_lt (txid_of x) txid ≡ b → filter (λ y. nat_lt (txid_of y) txid) xs ≡ take (txid - (next + 1)) xs
          → cond b (x ∷ filter (λ y. nat_lt (txid_of y) txid) xs) (filter (λ y. nat_lt (txid_of y) txid) xs) ≡ take (txid - next) (x ∷ xs)
      by true is rest =
          let at = row.0 in
          let less : txid_of x < txid = grind (arith, nat_tests, is) in
          let more : txid - next ≡ suc (txid - (next + 1)) = omega (arith, at, less) in
          rw more (ap (λ ys. x ∷ ys) rest)
      by false is rest =
          let at = row.0 in
          let up : (txid_of x < txid → ⊥) = λ less. grind (arith, nat_tests, is, less) in
          let none : txid - next ≡ zero = omega (arith, at, up) in
          let none_later : txid - (next + 1) ≡ zero = omega (arith, at, up) in
          rw none (rest ∙ ap (λ k. take k xs) none_later)
