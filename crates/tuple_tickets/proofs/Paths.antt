-- Paths and their ends.
use Rattle.std.proofs.Common.{◌≡◌, ◌≢◌, ℕ, zero, suc, ◌+◌, ◌<◌, ◌≤◌, ◌==◌, ◌&&◌, Bool, true, false, cond, true≢false, List, [], ◌∷◌, ◌++◌, length, Some, slice_get, sym, refl, subst, ◌∙◌, eqb-true, eq-eqb, ne_eqb, arith}
use Rattle.std.proofs.lemmas.Bool.Decides.{same_from_decides}
use Rattle.std.proofs.lemmas.Slice.Eq.{bytes_eq-Decides}
use Rattle.std.specs.List.{AllByRecursion}
use Rattle.counted_items.specs.Weights.{weigh}
use Rattle.counted_items.proofs.Equality.{and-true}
use Rattle.tuple_tickets.specs.Paths.{path_eq, is_path, paths_below}

pub ends-apart : (xs : List ℕ) (k : ℕ) → xs ++ k ∷ [] ≢ []
ends-apart [] k e = cc
ends-apart (x ∷ xs) k e = cc

pub last_is : (xs ys : List ℕ) (j k : ℕ) → xs ++ j ∷ [] ≡ ys ++ k ∷ [] → (xs ≡ ys) × (j ≡ k)
last_is [] [] j k e = (refl, cc)
last_is [] (y ∷ ys) j k e = let rest : [] ≡ ys ++ k ∷ [] = cc in absurd (ends-apart ys k (sym rest))
last_is (x ∷ xs) [] j k e = let rest : xs ++ j ∷ [] ≡ [] = cc in absurd (ends-apart xs j rest)
last_is (x ∷ xs) (y ∷ ys) j k e =
    let rest : xs ++ j ∷ [] ≡ ys ++ k ∷ [] = cc in
    let head : x ≡ y = cc in
    let both = last_is xs ys j k rest in ((λ i. head i ∷ both.0 i), both.1)

-- by induction on the end
pub by_ends : (P : List ℕ → Type 0) → P [] → ((xs : List ℕ) (k : ℕ) → P xs → P (xs ++ k ∷ [])) → (xs : List ℕ) → P xs
by_ends P none more [] = none
by_ends P none more (x ∷ xs) = by_ends (λ ys. P (x ∷ ys)) (more [] x none) (λ ys k. more (x ∷ ys) k) xs

pub same_path : (p q : List ℕ) → path_eq p q ≡ true → p ≡ q
same_path p q = (bytes_eq-Decides p q).0

pub path_itself : (p : List ℕ) → path_eq p p ≡ true
path_itself p = (bytes_eq-Decides p p).1 refl

pub other_path : (p q : List ℕ) → p ≢ q → path_eq p q ≡ false
other_path p q apart = elim (path_eq p q) as (λ b. (b ≡ true → p ≡ q) → b ≡ false) [ true ↦ λ same. absurd (apart (same refl)) | false ↦ λ same. refl ] (same_path p q)

pub same_end : (xs ys : List ℕ) (j k : ℕ) → path_eq (xs ++ j ∷ []) (ys ++ k ∷ []) ≡ path_eq xs ys && (j == k)
same_end xs ys j k = same_from_decides (path_eq (xs ++ j ∷ []) (ys ++ k ∷ [])) (path_eq xs ys && (j == k)) (bytes_eq-Decides (xs ++ j ∷ []) (ys ++ k ∷ [])) (
  (λ same. let both = and-true (path_eq xs ys) (j == k) same in let first = same_path xs ys both.0 in let second = eqb-true j k both.1 in λ i. first i ++ second i ∷ []),
  λ same. let both = last_is xs ys j k same in rw ((bytes_eq-Decides xs ys).1 both.0, eq-eqb j k both.1) refl,
)

-- ---- places

pub slice_get-below : {X : Type 0} (xs : List X) (k : ℕ) (x : X) → slice_get xs k ≡ Some x → k < length xs
slice_get-below [] k x e = absurd (cc)
slice_get-below (y ∷ ys) zero x e = omega arith
slice_get-below (y ∷ ys) (suc k) x e = let h = slice_get-below ys k x e in omega arith

-- the item at a place below the length
pub item_at : {X : Type 0} (xs : List X) (k : ℕ) → k < length xs → (x : X) × (slice_get xs k ≡ Some x)
item_at [] k few = absurd (omega arith)
item_at (x ∷ xs) zero few = (x, refl)
item_at (x ∷ xs) (suc k) few = item_at xs k (omega arith)

-- ---- paths below a path

pub below_other : (q : List ℕ) (k : ℕ) (path : List ℕ) (j n : ℕ) → path ≢ q → weigh (is_path (q ++ k ∷ [])) (paths_below path j n) ≡ 0
below_other q k path j zero apart = refl
below_other q k path j (suc n) apart =
    let here : is_path (q ++ k ∷ []) (path ++ j ∷ []) ≡ 0 = rw (same_end path q j k, other_path path q apart) refl in
    let rest = below_other q k path (suc j) n apart in omega arith

below_past : (q : List ℕ) (k j n : ℕ) → k < j → weigh (is_path (q ++ k ∷ [])) (paths_below q j n) ≡ 0
below_past q k j zero past = refl
below_past q k j (suc n) past =
    let here : is_path (q ++ k ∷ []) (q ++ j ∷ []) ≡ 0 = rw (same_end q q j k, path_itself q, ne_eqb j k (λ e. omega arith)) refl in
    let rest = below_past q k (suc j) n (omega arith) in omega arith

pub below_same : (q : List ℕ) (k j n : ℕ) → j ≤ k → k < j + n → weigh (is_path (q ++ k ∷ [])) (paths_below q j n) ≡ 1
below_same q k j zero low high = absurd (omega arith)
below_same q k j (suc n) low high = cases (j == k) refl (below_same q k (suc j) n)
  where
    cases : (b : Bool) → (j == k) ≡ b → (suc j ≤ k → k < suc j + n → weigh (is_path (q ++ k ∷ [])) (paths_below q (suc j) n) ≡ 1) → is_path (q ++ k ∷ []) (q ++ j ∷ []) + weigh (is_path (q ++ k ∷ [])) (paths_below q (suc j) n) ≡ 1
    cases true is later =
        let same = eqb-true j k is in
        let here : is_path (q ++ k ∷ []) (q ++ j ∷ []) ≡ 1 = rw (same_end q q j k, path_itself q, is) refl in
        let rest = below_past q k (suc j) n (omega arith) in omega arith
    cases false is later =
        let apart : j ≢ k = λ e. true≢false (sym (eq-eqb j k e) ∙ is) in
        let here : is_path (q ++ k ∷ []) (q ++ j ∷ []) ≡ 0 = rw (same_end q q j k, path_itself q, is) refl in
        let rest = later (omega arith) (omega arith) in omega arith

-- what each of some paths has, a path has that is among them
pub path_among : (path : List ℕ) (ps : List (List ℕ)) (P : List ℕ → Type 0) → AllByRecursion P ps → 1 ≤ weigh (is_path path) ps → P path
path_among path [] P all some = absurd (omega arith)
path_among path (p ∷ ps) P all some = cases (path_eq p path) refl some (path_among path ps P all.1)
  where
    cases : (b : Bool) → path_eq p path ≡ b → 1 ≤ cond b 1 0 + weigh (is_path path) ps → (1 ≤ weigh (is_path path) ps → P path) → P path
    cases true is some later = subst P (same_path p path is) all.0
    cases false is some later = later (omega arith)
