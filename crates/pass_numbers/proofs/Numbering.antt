-- No number stands twice, a split gives one more, and a whole holder leaves none to others.
use Rattle.std.proofs.Common.{◌≡◌, ◌≢◌, ◌⊎◌, ℕ, ◌+◌, ◌≤◌, nat_lt, nat_eq, eqb-true, eq-eqb, Bool, true, false, cond, true≢false, List, [], ◌∷◌, ◌++◌, set, inl, inr, ⊎_elim, sym, refl, ap, ◌∙◌, arith}
use Rattle.std.proofs.lemmas.Slice.Eq.{bytes_eq-Decides}
use Rattle.std.proofs.lemmas.Bool.Decides.{nat_tests, same_from_decides}
use Rattle.std.specs.Str.{bytes_eq}
use Rattle.std.specs.List.{AllByRecursion}
use mathlib.Core.Option.{some}
use lib.ListN.{get_elem?}
use Rattle.counted_items.specs.Weights.{weigh, Same}
use Rattle.counted_items.proofs.Weighing.{weigh-append, weigh-none}
use Rattle.pass_numbers.specs.declared.Number.{Number}
use Rattle.pass_numbers.specs.Numbers.{first_numbers, kept_numbers, cut_numbers, has, splits_at, IsWhole, over, Numbered}
use Rattle.pass_numbers.proofs.Lists.{ends-apart, last_is, by_ends, each-set}
use Rattle.pass_numbers.proofs.Weights.{weigh-set, weigh-set-append}

-- ---- digits

-- digits are themselves, and no others
pub same_digits : (p : List ℕ) → bytes_eq p p ≡ true
same_digits p = (bytes_eq-Decides p p).1 refl

pub other_digits : (p q : List ℕ) → p ≢ q → bytes_eq p q ≡ false
other_digits p q apart = elim (bytes_eq p q) as (λ b. (b ≡ true → p ≡ q) → b ≡ false) [ true ↦ λ same. absurd (apart (same refl)) | false ↦ λ same. refl ] (bytes_eq-Decides p q).0

digits_cases : (p q : List ℕ) → (p ≡ q) ⊎ (bytes_eq p q ≡ false)
digits_cases p q = elim (bytes_eq p q) as (λ b. (b ≡ true → p ≡ q) → (p ≡ q) ⊎ (b ≡ false)) [ true ↦ λ same. inl (same refl) | false ↦ λ same. inr refl ] (bytes_eq-Decides p q).0

same_end : (xs : List ℕ) (j k : ℕ) → bytes_eq (xs ++ j ∷ []) (xs ++ k ∷ []) ≡ nat_eq j k
same_end xs j k = same_from_decides (bytes_eq (xs ++ j ∷ []) (xs ++ k ∷ [])) (nat_eq j k) (bytes_eq-Decides (xs ++ j ∷ []) (xs ++ k ∷ [])) ((λ yes. ap (λ (n : ℕ). xs ++ n ∷ []) (eqb-true j k yes)), λ same. eq-eqb j k (last_is xs xs j k same).1)

pub cond-zero : (t : Bool) → ◌≡◌ {A = ℕ} (cond t 1 0) 0 → t ≡ false
cond-zero true e = absurd (omega arith)
cond-zero false e = refl

pub has_self : (n : Number) → has n.digits n ≡ 1
has_self n = rw (same_digits n.digits) refl

pub has-none : (q : List ℕ) (n : Number) → has q n ≡ 0 → bytes_eq n.digits q ≡ false
has-none q n none = cond-zero (bytes_eq n.digits q) none

pub splits-none : (q : List ℕ) (n : Number) → has q n ≡ 0 → splits_at q n ≡ 0
splits-none q n none = rw (has-none q n none) refl

-- a holder of whom no number is found has none
pub no_number : (ns : List Number) → ((q : List ℕ) → weigh (has q) ns ≡ 0) → ns ≡ []
no_number [] none = refl
no_number (n ∷ ns) none = let e = none n.digits in let s = has_self n in absurd (omega arith)

-- ---- holders

-- a holder by itself has all numbers where its own are whole
pub one_numbered : {V : Type 0} (numbers_of : V → List Number) (v : V) → IsWhole (numbers_of v) → Numbered numbers_of (v ∷ [])
one_numbered numbers_of v whole = (
  (let a = whole.0 in omega arith),
  λ p k.
      let b : weigh (splits_at p) (numbers_of v) + 0 ≡ weigh (splits_at p) (numbers_of v) = omega arith in
      let a = whole.1 p k in rw b (omega arith),
)

-- numbers that weigh what all holders' numbers weigh are whole
pub whole_of : {V : Type 0} (numbers_of : V → List Number) (holders : List V) (ns : List Number)
    → ((f : Number → ℕ) → weigh f ns ≡ over numbers_of f holders) → Numbered numbers_of holders → IsWhole ns
whole_of numbers_of holders ns same numbered = (
  same (has []) ∙ numbered.0,
  λ p k. same (has (p ++ k ∷ [])) ∙ rw (same (splits_at p)) (numbered.1 p k),
)

-- holders whose numbers weigh the same have all numbers as before
pub numbered_as : {V W : Type 0} (numbers_of : V → List Number) (numbers_in : W → List Number) (before : List V) (after : List W)
    → ((f : Number → ℕ) → over numbers_in f after ≡ over numbers_of f before) → Numbered numbers_of before → Numbered numbers_in after
numbered_as numbers_of numbers_in before after same numbered = (same (has []) ∙ numbered.0, λ p k. same (has (p ++ k ∷ [])) ∙ rw (same (splits_at p)) (numbered.1 p k))

-- one holder that is left has all numbers
pub one_whole : {V : Type 0} (numbers_of : V → List Number) (v : V) → Numbered numbers_of (v ∷ []) → IsWhole (numbers_of v)
one_whole numbers_of v numbered = whole_of numbers_of (v ∷ []) (numbers_of v) (λ f. omega arith) numbered

-- holders in another order
pub any_order : {V : Type 0} (numbers_of : V → List Number) (holders others : List V) → Same holders others → Numbered numbers_of holders → Numbered numbers_of others
any_order numbers_of holders others same numbered = numbered_as numbers_of numbers_of holders others (λ f. sym (same (λ v. weigh f (numbers_of v)))) numbered

-- the first two holders change places
pub swap_beside : {V : Type 0} (numbers_of : V → List Number) (v u : V) (others : List V) → Numbered numbers_of (v ∷ u ∷ others) → Numbered numbers_of (u ∷ v ∷ others)
swap_beside numbers_of v u others numbered = numbered_as numbers_of numbers_of (v ∷ u ∷ others) (u ∷ v ∷ others) (λ f. omega arith) numbered

-- the first holder keeps its numbers
pub same_beside : {V : Type 0} (numbers_of : V → List Number) (v w : V) (others : List V) → numbers_of w ≡ numbers_of v → Numbered numbers_of (v ∷ others) → Numbered numbers_of (w ∷ others)
same_beside numbers_of v w others same numbered =
    numbered_as numbers_of numbers_of (v ∷ others) (w ∷ others) (λ f. let e : weigh f (numbers_of w) ≡ weigh f (numbers_of v) = ap (weigh f) same in omega arith) numbered

module _ {V : Type 0} (numbers_of : V → List Number) where
  abbrev in_holder : (Number → ℕ) → V → ℕ
  in_holder f v = weigh f (numbers_of v)

  pub over-set : (f : Number → ℕ) (holders : List V) (i : ℕ) (v w : V) → get_elem? holders i ≡ some v → over numbers_of f (set holders i w) + weigh f (numbers_of v) ≡ over numbers_of f holders + weigh f (numbers_of w)
  over-set f holders i v w at = weigh-set (in_holder f) holders i v w at

  pub over-none : (f g : Number → ℕ) → ((n : Number) → g n ≡ 0 → f n ≡ 0) → (holders : List V) → over numbers_of g holders ≡ 0 → over numbers_of f holders ≡ 0
  over-none f g step holders none = weigh-none (in_holder f) (in_holder g) (λ v. weigh-none f g step (numbers_of v)) holders none

  -- each number stands once at most
  pub has-le : (holders : List V) → Numbered numbers_of holders → (q : List ℕ) → over numbers_of (has q) holders ≤ 1
  has-le holders numbered = by_ends (λ q. over numbers_of (has q) holders ≤ 1) (let e = numbered.0 in omega arith) (λ p k before. once p k (nat_lt k (over numbers_of (splits_at p) holders)) (numbered.1 p k))
    where
      once : (p : List ℕ) (k : ℕ) (t : Bool) → over numbers_of (has (p ++ k ∷ [])) holders ≡ cond t 1 0 → over numbers_of (has (p ++ k ∷ [])) holders ≤ 1
      once p k true e = omega arith
      once p k false e = omega arith

  -- a holder whose numbers stay
  pub numbered_set : (holders : List V) (i : ℕ) (v w : V) → get_elem? holders i ≡ some v → numbers_of w ≡ numbers_of v → Numbered numbers_of holders → Numbered numbers_of (set holders i w)
  numbered_set holders i v w at same =
      numbered_as numbers_of numbers_of holders (set holders i w)
      (λ f. let e = over-set f holders i v w at in let g : weigh f (numbers_of w) ≡ weigh f (numbers_of v) = ap (weigh f) same in omega arith)

  -- ---- a holder without numbers, which tells how the others stand

  module _ (spent : V) (spent_is : numbers_of spent ≡ []) where
    none_there : (f : Number → ℕ) → weigh f (numbers_of spent) ≡ 0
    none_there f = ap (weigh f) spent_is

    -- where a holder has a number, no other has it
    pub alone : (holders : List V) (i : ℕ) (v : V) (n : Number) (ns : List Number) → Numbered numbers_of holders → get_elem? holders i ≡ some v → numbers_of v ≡ n ∷ ns
        → (over numbers_of (has n.digits) (set holders i spent) ≡ 0) × (weigh (has n.digits) ns ≡ 0)
    alone holders i v n ns numbered at is =
        let few = has-le holders numbered n.digits in
        let moved = over-set (has n.digits) holders i v spent at in
        let own : weigh (has n.digits) (numbers_of v) ≡ has n.digits n + weigh (has n.digits) ns = ap (weigh (has n.digits)) is in
        let gone = none_there (has n.digits) in
        let self = has_self n in (omega arith, omega arith)

    -- so a weight that only this number has is that of the one
    pub over-alone : (f : Number → ℕ) (holders : List V) (i : ℕ) (v : V) (n : Number) (ns : List Number) → Numbered numbers_of holders → get_elem? holders i ≡ some v → numbers_of v ≡ n ∷ ns
        → ((m : Number) → has n.digits m ≡ 0 → f m ≡ 0) → over numbers_of f holders ≡ f n
    over-alone f holders i v n ns numbered at is step =
        let none = alone holders i v n ns numbered at is in
        let others = over-none f (has n.digits) step (set holders i spent) none.0 in
        let rest = weigh-none f (has n.digits) step ns none.1 in
        let moved = over-set f holders i v spent at in
        let gone = none_there f in
        let own : weigh f (numbers_of v) ≡ f n + weigh f ns = ap (weigh f) is in omega arith

    -- beside a whole holder no other has a number
    pub no_others : (holders : List V) (i : ℕ) (v : V) → IsWhole (numbers_of v) → Numbered numbers_of holders → get_elem? holders i ≡ some v → (q : List ℕ) → over numbers_of (has q) (set holders i spent) ≡ 0
    no_others holders i v whole numbered at = by_ends (λ q. over numbers_of (has q) (set holders i spent) ≡ 0)
        (let e = over-set (has []) holders i v spent at in let a = numbered.0 in let m = whole.0 in let g = none_there (has []) in omega arith)
        (λ p k before.
        let gone = over-none (splits_at p) (has p) (splits-none p) (set holders i spent) before in
        let e = over-set (splits_at p) holders i v spent at in
        let g = none_there (splits_at p) in
        let same : over numbers_of (splits_at p) holders ≡ weigh (splits_at p) (numbers_of v) = omega arith in
        let f = over-set (has (p ++ k ∷ [])) holders i v spent at in
        let h = none_there (has (p ++ k ∷ [])) in
        let m = whole.1 p k in
        let b : over numbers_of (has (p ++ k ∷ [])) holders ≡ weigh (has (p ++ k ∷ [])) (numbers_of v) = numbered.1 p k ∙ rw same (sym m) in
        omega arith)

    -- ---- a split

    module _ (n : Number) (ns : List Number) (holders : List V) (i : ℕ) (v w r : V) (at : get_elem? holders i ≡ some v) (is : numbers_of v ≡ n ∷ ns) (kept : numbers_of w ≡ kept_numbers (n ∷ ns)) (cut : numbers_of r ≡ cut_numbers (n ∷ ns)) where
      abbrev child : List ℕ
      child = n.digits ++ n.splits ∷ []

      abbrev after : List V
      after = set holders i w ++ r ∷ []

      no_child : (p : List ℕ) → ◌≡◌ {A = ℕ} (cond (bytes_eq child p) 0 0) 0
      no_child p = elim (bytes_eq child p) as (λ (t : Bool). ◌≡◌ {A = ℕ} (cond t 0 0) 0) [ true ↦ refl | false ↦ refl ]

      one_more : (k c : ℕ) → ◌≡◌ {A = ℕ} (cond (nat_lt k c) 1 0 + cond (nat_eq c k) 1 0) (cond (nat_lt k (c + 1)) 1 0)
      one_more k c = grind (arith, nat_tests)

      one_split : (t : Bool) (c : ℕ) → cond t (c + 1) 0 ≡ cond t c 0 + cond t 1 0
      one_split true c = refl
      one_split false c = refl

      cut_has : (q : List ℕ) → over numbers_of (has q) after ≡ over numbers_of (has q) holders + cond (bytes_eq child q) 1 0
      cut_has q =
          let e = weigh-set-append (in_holder (has q)) holders i v w r at in
          let a : weigh (has q) (numbers_of v) ≡ weigh (has q) (n ∷ ns) = ap (weigh (has q)) is in
          let c : weigh (has q) (numbers_of w) ≡ weigh (has q) (n ∷ ns) = ap (weigh (has q)) kept in
          let d : weigh (has q) (numbers_of r) ≡ cond (bytes_eq child q) 1 0 + 0 = ap (weigh (has q)) cut in omega arith

      cut_splits : (p : List ℕ) → over numbers_of (splits_at p) after ≡ over numbers_of (splits_at p) holders + cond (bytes_eq n.digits p) 1 0
      cut_splits p =
          let e = weigh-set-append (in_holder (splits_at p)) holders i v w r at in
          let a : weigh (splits_at p) (numbers_of v) ≡ cond (bytes_eq n.digits p) n.splits 0 + weigh (splits_at p) ns = ap (weigh (splits_at p)) is in
          let c : weigh (splits_at p) (numbers_of w) ≡ cond (bytes_eq n.digits p) (n.splits + 1) 0 + weigh (splits_at p) ns = ap (weigh (splits_at p)) kept in
          let d : weigh (splits_at p) (numbers_of r) ≡ cond (bytes_eq child p) 0 0 + 0 = ap (weigh (splits_at p)) cut in
          let none = no_child p in
          let more = one_split (bytes_eq n.digits p) n.splits in omega arith

      pub cut_numbered : Numbered numbers_of holders → Numbered numbers_of after
      cut_numbered numbered = (
        (let e = cut_has [] in let f = other_digits child [] (ends-apart n.digits n.splits) in let g = rw f at e in let h = numbered.0 in omega arith),
        λ p k. ⊎_elim (mine p k) (others p k) (digits_cases n.digits p),
      )
        where
          mine : (p : List ℕ) (k : ℕ) → n.digits ≡ p → over numbers_of (has (p ++ k ∷ [])) after ≡ cond (nat_lt k (over numbers_of (splits_at p) after)) 1 0
          mine p k same =
              let total : over numbers_of (splits_at n.digits) holders ≡ n.splits = over-alone (splits_at n.digits) holders i v n ns numbered at is (splits-none n.digits) ∙ rw (same_digits n.digits) refl in
              let splits : over numbers_of (splits_at p) after ≡ n.splits + 1 = rw (← same) (cut_splits n.digits ∙ (let y = same_digits n.digits in rw y (omega arith))) in
              let which : bytes_eq child (p ++ k ∷ []) ≡ nat_eq n.splits k = rw (← same) (same_end n.digits n.splits k) in
              let before : over numbers_of (has (p ++ k ∷ [])) holders ≡ cond (nat_lt k n.splits) 1 0 = numbered.1 p k ∙ rw (← same, total) refl in
              rw (splits, cut_has (p ++ k ∷ []), which, before) (one_more k n.splits)

          others : (p : List ℕ) (k : ℕ) → bytes_eq n.digits p ≡ false → over numbers_of (has (p ++ k ∷ [])) after ≡ cond (nat_lt k (over numbers_of (splits_at p) after)) 1 0
          others p k apart =
              let splits : over numbers_of (splits_at p) after ≡ over numbers_of (splits_at p) holders = cut_splits p ∙ rw apart (omega arith) in
              let which : bytes_eq child (p ++ k ∷ []) ≡ false = other_digits child (p ++ k ∷ []) (λ same. true≢false (sym ((bytes_eq-Decides n.digits p).1 (last_is n.digits p n.splits k same).0) ∙ apart)) in
              let before = numbered.1 p k in
              rw (splits, cut_has (p ++ k ∷ []), which, before) (omega arith)

-- a holder with some number is split
pub split_numbered : {V : Type 0} (numbers_of : V → List Number) (spent : V) → numbers_of spent ≡ [] → (holders : List V) (i : ℕ) (v w r : V) → get_elem? holders i ≡ some v → numbers_of v ≢ []
    → numbers_of w ≡ kept_numbers (numbers_of v) → numbers_of r ≡ cut_numbers (numbers_of v) → Numbered numbers_of holders → Numbered numbers_of (set holders i w ++ r ∷ [])
split_numbered {V} numbers_of spent spent_is holders i v w r at some_number kept cut numbered = made (numbers_of v) refl
  where
    made : (ns : List Number) → numbers_of v ≡ ns → Numbered numbers_of (set holders i w ++ r ∷ [])
    made [] is = absurd (some_number is)
    made (n ∷ ns) is = cut_numbered numbers_of spent spent_is n ns holders i v w r at is (kept ∙ ap kept_numbers is) (cut ∙ ap cut_numbers is) numbered

-- the same of holders that a caller has in its hands
pub split_beside : {V : Type 0} (numbers_of : V → List Number) (spent : V) → numbers_of spent ≡ [] → (v w r : V) (others : List V) → numbers_of v ≢ []
    → numbers_of w ≡ kept_numbers (numbers_of v) → numbers_of r ≡ cut_numbers (numbers_of v) → Numbered numbers_of (v ∷ others) → Numbered numbers_of (w ∷ r ∷ others)
split_beside numbers_of spent spent_is v w r others some_number kept cut numbered =
    numbered_as numbers_of numbers_of (w ∷ others ++ r ∷ []) (w ∷ r ∷ others)
    (λ f. let e = weigh-append (in_holder numbers_of f) others (r ∷ []) in omega arith)
    (split_numbered numbers_of spent spent_is (v ∷ others) 0 v w r refl some_number kept cut numbered)

pub join_beside : {V : Type 0} (numbers_of : V → List Number) (v u w : V) (others : List V) → numbers_of w ≡ numbers_of v ++ numbers_of u → Numbered numbers_of (v ∷ u ∷ others) → Numbered numbers_of (w ∷ others)
join_beside numbers_of v u w others is =
    numbered_as numbers_of numbers_of (v ∷ u ∷ others) (w ∷ others)
    (λ f. let e : weigh f (numbers_of w) ≡ weigh f (numbers_of v ++ numbers_of u) = ap (weigh f) is in let g = weigh-append f (numbers_of v) (numbers_of u) in omega arith)

-- holders of whom no number is found have none
pub no_holder : {V : Type 0} (numbers_of : V → List Number) (holders : List V) → ((q : List ℕ) → over numbers_of (has q) holders ≡ 0) → AllByRecursion (λ v. numbers_of v ≡ []) holders
no_holder numbers_of [] none = tt
no_holder numbers_of (v ∷ holders) none =
    (no_number (numbers_of v) (λ q. let e = none q in omega arith), no_holder numbers_of holders (λ q. let e = none q in omega arith))

-- a weight of the holders is that of the whole one, where holders without numbers weigh nothing
pub only : {V : Type 0} (numbers_of : V → List Number) (spent : V) → numbers_of spent ≡ [] → (f : V → ℕ) → f spent ≡ 0 → (holders : List V) (i : ℕ) (v : V) → AllByRecursion (λ (u : V). numbers_of u ≡ [] → f u ≡ 0) holders
    → IsWhole (numbers_of v) → Numbered numbers_of holders → get_elem? holders i ≡ some v → weigh f holders ≡ f v
only {V} numbers_of spent spent_is f here holders i v nil whole numbered at =
    let zeros = others (set holders i spent) (each-set (λ (u : V). numbers_of u ≡ [] → f u ≡ 0) holders i spent nil (λ none. here)) (no_others numbers_of spent spent_is holders i v whole numbered at) in
    let e = weigh-set f holders i v spent at in omega arith
  where
    others : (us : List V) → AllByRecursion (λ (u : V). numbers_of u ≡ [] → f u ≡ 0) us → ((q : List ℕ) → over numbers_of (has q) us ≡ 0) → weigh f us ≡ 0
    others [] nil none = refl
    others (u ∷ us) nil none =
        let here = nil.0 (no_number (numbers_of u) (λ q. let e = none q in omega arith)) in
        let later = others us nil.1 (λ q. let e = none q in omega arith) in omega arith

pub kept_some : (ns : List Number) → ns ≢ [] → kept_numbers ns ≢ []
kept_some [] some_number nil = some_number refl
kept_some (n ∷ ns) some_number nil = cc

pub cut_some : (ns : List Number) → ns ≢ [] → cut_numbers ns ≢ []
cut_some [] some_number nil = some_number refl
cut_some (n ∷ ns) some_number nil = cc

pub first_whole : IsWhole first_numbers
first_whole = (refl, λ p k. later p k (bytes_eq [] (p ++ k ∷ [])) refl (bytes_eq [] p))
  where
    later : (p : List ℕ) (k : ℕ) (t : Bool) → bytes_eq [] (p ++ k ∷ []) ≡ t → (u : Bool) → ◌≡◌ {A = ℕ} (cond t 1 0 + 0) (cond (nat_lt k (cond u 0 0 + 0)) 1 0)
    later p k true is u = absurd (ends-apart p k (sym ((bytes_eq-Decides [] (p ++ k ∷ [])).0 is)))
    later p k false is true = grind (arith, nat_tests)
    later p k false is false = grind (arith, nat_tests)
