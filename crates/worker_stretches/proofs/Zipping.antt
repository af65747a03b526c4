-- Pairs of two lists, by their numbers.
use Rattle.std.proofs.Common.{length-append, length-drop, drop, ◌<◌, Option, None, Some, ◌≡◌, ℕ, suc, ◌+◌, List, [], ◌∷◌, ◌++◌, length, sym, refl, ap, subst, ◌∙◌, append_assoc, append-nil, arith}
use Rattle.std.specs.List.{AllByRecursion}
use Rattle.std.specs.Prelude.{IsSome}
use Rattle.std.specs.Option.{option_to_list}
use Rattle.event_engine.specs.Seats.{AllFrom}
use Rattle.worker_stretches.specs.Places.{ZipFrom}

module _ {X Y : Type 0} (R : ℕ → X → Y → Type 0) where
  zip-more : (k n : ℕ) (xs : List X) (ys : List Y) (x : X) (y : Y) → ZipFrom R k xs ys → n ≡ k + length ys → R n x y → ZipFrom R k (xs ++ x ∷ []) (ys ++ y ∷ [])
  zip-more k n [] [] x y are is here = (subst (λ n. R n x y) (let e : n ≡ k = omega arith in e) here, tt)
  zip-more k n [] (y' ∷ ys) x y are is here = absurd are
  zip-more k n (x' ∷ xs) [] x y are is here = absurd are
  zip-more k n (x' ∷ xs) (y' ∷ ys) x y are is here = (are.0, zip-more (suc k) n xs ys x y are.1 (omega arith) here)

  pub zip-flip : (k : ℕ) (xs : List X) (ys : List Y) → ZipFrom R k xs ys → ZipFrom (λ n y x. R n x y) k ys xs
  zip-flip k [] [] are = tt
  zip-flip k [] (y ∷ ys) are = absurd are
  zip-flip k (x ∷ xs) [] are = absurd are
  zip-flip k (x ∷ xs) (y ∷ ys) are = (are.0, zip-flip (suc k) xs ys are.1)

  -- So many of a list have come to be pairs.
  pub record Zipped (all rest : List X) (made : List Y) : Type 0 where
    pub done : List X
    pub parts : done ++ rest ≡ all
    pub pairs : ZipFrom R 0 done made

  pub zipped-none : (all : List X) → Zipped all all []
  zipped-none all = record { done = []; parts = refl; pairs = tt }

  pub zipped-more : (all rest : List X) (x : X) (made : List Y) (y : Y) → Zipped all (x ∷ rest) made → R (length made) x y → Zipped all rest (made ++ y ∷ [])
  zipped-more all rest x made y so_far here = record {
    done = so_far.done ++ x ∷ [];
    parts = append_assoc so_far.done (x ∷ []) rest ∙ so_far.parts;
    pairs = zip-more 0 (length made) so_far.done made x y so_far.pairs (omega arith) here;
  }

  pub zipped-all : (all : List X) (made : List Y) → Zipped all [] made → ZipFrom R 0 all made
  zipped-all all made zipped = subst (λ (xs : List X). ZipFrom R 0 xs made) (sym (append-nil zipped.done) ∙ zipped.parts) zipped.pairs

pub all-from-more : {X : Type 0} (P : ℕ → X → Type 0) (k n : ℕ) (xs : List X) (x : X) → AllFrom P k xs → n ≡ k + length xs → P n x → AllFrom P k (xs ++ x ∷ [])
all-from-more P k n [] x are is here = (subst (λ n. P n x) (let e : n ≡ k = omega arith in e) here, tt)
all-from-more P k n (y ∷ ys) x are is here = (are.0, all-from-more P (suc k) n ys x are.1 (omega arith) here)

pub each-last : {X : Type 0} (P : X → Type 0) (xs : List X) (x : X) → AllByRecursion P xs → P x → AllByRecursion P (xs ++ x ∷ [])
each-last P [] x all here = (here, tt)
each-last P (y ∷ ys) x all here = (all.0, each-last P ys x all.1 here)

pub one-more : {X : Type 0} (xs : List X) (x : X) → length (xs ++ x ∷ []) ≡ suc (length xs)
one-more xs x = length-append xs (x ∷ []) ∙ (let e : length xs + 1 ≡ suc (length xs) = omega arith in e)

pub no_more : {X : Type 0} (xs : List X) → length xs ≡ 0 → xs ≡ []
no_more [] none = refl
no_more (x ∷ xs) none = absurd (omega arith)

-- from an empty queue nothing comes
pub none_left : {X : Type 0} (xs ys : List X) (front : Option X) → front ≡ None → xs ≡ option_to_list front ++ ys → ys ≡ drop 1 xs → xs ≡ []
none_left [] ys front none is rest = refl
none_left {X} (x ∷ xs) ys front none is rest =
    let all : x ∷ xs ≡ ys = is ∙ ap (λ (o : Option X). option_to_list o ++ ys) none in
    absurd (let e = ap length all in let r = ap length rest in let l = length-drop 1 (x ∷ xs) in omega arith)

-- from a queue that is not empty something comes
pub comes : {X : Type 0} (xs ys : List X) (front : Option X) → xs ≡ option_to_list front ++ ys → ys ≡ drop 1 xs → 0 < length xs → IsSome front
comes xs ys (Some x) is rest some = refl
comes xs ys None is rest some = absurd (let e = ap length is in let r = ap length rest in let l = length-drop 1 xs in omega arith)

pub at_front : {X : Type 0} (xs ys : List X) (front : Option X) (x : X) → xs ≡ option_to_list front ++ ys → front ≡ Some x → xs ≡ x ∷ ys
at_front {X} xs ys front x is some = is ∙ ap (λ (o : Option X). option_to_list o ++ ys) some
