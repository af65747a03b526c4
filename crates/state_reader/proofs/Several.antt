-- The lists of several pairs.
use Rattle.std.proofs.Common.{◌≡◌, ◌<◌, Bool, true, false, ℕ, zero, suc, ◌+◌, List, [], ◌∷◌, ◌++◌, All, map, take, drop, length, get_or, replicate, set, append_assoc, inl, inr, sym, refl, ap, ◌∙◌, subst, arith}
use Rattle.std.proofs.lemmas.Grind.{take_at_read}
use Rattle.std.proofs.lemmas.List.{get_or-map, length-append, map-append, map-set}
use Rattle.std.proofs.lemmas.List.Elements.{All-from_recursion, All-push, recursion_from_All}
use Rattle.std.specs.Bool.{if◌then◌else◌}
use Rattle.std.specs.List.{AllByRecursion, AllZip}
use Rattle.state_reader.specs.Commits.{Commit}
use Rattle.state_reader.specs.Lists.{with_commit, MayHave}
use Rattle.state_reader.specs.Prefix.{StartsWith}
use Rattle.state_reader.specs.Views.{Begins}

take_all : {X : Type 0} (xs : List X) (n : ℕ) → take n xs ++ drop n xs ≡ xs
take_all [] zero = refl
take_all [] (suc n) = refl
take_all (x ∷ xs) zero = refl
take_all (x ∷ xs) (suc n) = ap (λ r. x ∷ r) (take_all xs n)

-- commits that start with others
pub starts_begins : (first all : List Commit) → StartsWith all first → Begins first all
starts_begins first all is = (drop (length first) all, sym (take_all all (length first)) ∙ ap (λ l. l ++ drop (length first) all) is)

take_self : {X : Type 0} (xs ys : List X) → take (length xs) (xs ++ ys) ≡ xs
take_self [] [] = refl
take_self [] (y ∷ ys) = refl
take_self (x ∷ xs) ys = ap (λ r. x ∷ r) (take_self xs ys)

append-nil : {X : Type 0} (xs : List X) → xs ++ [] ≡ xs
append-nil [] = refl
append-nil (x ∷ xs) = ap (λ r. x ∷ r) (append-nil xs)

pub starts_same : (list : List Commit) → StartsWith list list
starts_same list = ap (take (length list)) (sym (append-nil list)) ∙ take_self list []

pub length-mapped : {X Z : Type 0} (f : X → Z) (xs : List X) → length (map f xs) ≡ length xs
length-mapped f [] = refl
length-mapped f (x ∷ xs) = ap suc (length-mapped f xs)

-- what one of several was told begins with what the first was told
pub begins_at : {X : Type 0} (told : X → List Commit) (xs : List X) (first : List Commit) (k : ℕ) (x : X) → All (λ list. StartsWith list first) (map told xs) → k < length xs → x ≡ get_or xs k x → Begins first (told x)
begins_at told xs first k x all within is =
    let there : k < length (map told xs) = subst (λ n. k < n) (sym (length-mapped told xs)) within in
    starts_begins first (told x) (subst (λ list. StartsWith list first) (get_or-map told xs k x [] within ∙ ap told (sym is)) (all k [] there))

-- ---- a commit that comes to one list after another

-- the first n lists have one more commit
abbrev pub spread : Commit → ℕ → List (List Commit) → List (List Commit)
spread commit zero lists = lists
spread commit (suc n) [] = []
spread commit (suc n) (list ∷ lists) = with_commit commit list ∷ spread commit n lists

spread-step : (commit : Commit) (lists : List (List Commit)) (n : ℕ) → n < length lists → set (spread commit n lists) n (with_commit commit (get_or (spread commit n lists) n [])) ≡ spread commit (suc n) lists
spread-step commit [] n within = absurd (omega arith)
spread-step commit (list ∷ lists) zero within = refl
spread-step commit (list ∷ lists) (suc n) within = ap (λ r. with_commit commit list ∷ r) (spread-step commit lists n (omega arith))

pub spread-all : (commit : Commit) (lists : List (List Commit)) → spread commit (length lists) lists ≡ map (with_commit commit) lists
spread-all commit [] = refl
spread-all commit (list ∷ lists) = ap (λ r. with_commit commit list ∷ r) (spread-all commit lists)

pub none-MayHave : (commit : Commit) (lists : List (List Commit)) → AllZip (MayHave commit) lists lists
none-MayHave commit [] = tt
none-MayHave commit (list ∷ lists) = (inr refl, none-MayHave commit lists)

pub spread-MayHave : (commit : Commit) (n : ℕ) (lists : List (List Commit)) → AllZip (MayHave commit) lists (spread commit n lists)
spread-MayHave commit zero lists = none-MayHave commit lists
spread-MayHave commit (suc n) [] = tt
spread-MayHave commit (suc n) (list ∷ lists) = (inl refl, spread-MayHave commit n lists)

length-spread : (commit : Commit) (n : ℕ) (lists : List (List Commit)) → length (spread commit n lists) ≡ length lists
length-spread commit zero lists = refl
length-spread commit (suc n) [] = refl
length-spread commit (suc n) (list ∷ lists) = ap suc (length-spread commit n lists)

module _ {X : Type 0} (shown : X → List Commit) where
  -- one of several is changed
  pub shown-set : (xs : List X) (n : ℕ) (old new : X) → n < length xs → old ≡ get_or xs n old → shown new ≡ shown old → map shown (set xs n new) ≡ map shown xs
  shown-set [] n old new within is same = absurd (omega arith)
  shown-set (x ∷ xs) zero old new within is same = ap (λ l. l ∷ map shown xs) (same ∙ ap shown is)
  shown-set (x ∷ xs) (suc n) old new within is same = ap (λ r. shown x ∷ r) (shown-set xs n old new (omega arith) is same)

  pub shown-spread : (commit : Commit) (lists : List (List Commit)) (xs : List X) (n : ℕ) (old new : X) → n < length xs → old ≡ get_or xs n old → map shown xs ≡ spread commit n lists → shown new ≡ with_commit commit (shown old)
      → map shown (set xs n new) ≡ spread commit (n + 1) lists
  shown-spread commit lists xs n old new within is all one =
      let next : n + 1 ≡ suc n = omega arith in
      let many : length xs ≡ length lists = sym (length-mapped shown xs) ∙ ap length all ∙ length-spread commit n lists in
      let was : get_or (spread commit n lists) n [] ≡ shown old = ap (λ (ls : List (List Commit)). get_or ls n []) (sym all) ∙ get_or-map shown xs n old [] within ∙ ap shown (sym is) in
      map-set shown xs n new
      ∙ ap (λ (ls : List (List Commit)). set ls n (shown new)) all
      ∙ ap (set (spread commit n lists) n) (one ∙ ap (with_commit commit) (sym was))
      ∙ spread-step commit lists n (subst (λ k. n < k) many within)
      ∙ ap (λ k. spread commit k lists) (sym next)

-- one more that was told
pub told-more : {Z : Type 0} (told : Z → List Commit) (notes : List Z) (note : Z) (lists : List (List Commit)) (n : ℕ) → n < length lists → map told notes ≡ take n lists → get_or lists n [] ≡ told note
    → map told (notes ++ note ∷ []) ≡ take (n + 1) lists
told-more told notes note lists n within all here =
    map-append told notes (note ∷ [])
    ∙ ap (λ ls. ls ++ told note ∷ []) all
    ∙ ap (λ l. take n lists ++ l ∷ []) (sym here)
    ∙ sym (take_at_read lists n [] within).1

-- ---- what all lists begin with

begins_starts : (first all more : List Commit) → Begins first all → StartsWith (all ++ more) first
begins_starts first all more is = ap (take (length first)) (ap (λ l. l ++ more) is.1 ∙ append_assoc first is.0 more) ∙ take_self first (is.0 ++ more)

starts_longer : (commit : Commit) (first old new : List Commit) → StartsWith old first → MayHave commit old new → StartsWith new first
starts_longer commit first old new is (inl more) = subst (λ l. StartsWith l first) (sym more) (begins_starts first old (commit ∷ []) (starts_begins first old is))
starts_longer commit first old new is (inr same) = subst (λ l. StartsWith l first) (sym same) is

later-each : (commit : Commit) (first : List Commit) (olds news : List (List Commit)) → AllByRecursion (λ list. StartsWith list first) olds → AllZip (MayHave commit) olds news → AllByRecursion (λ list. StartsWith list first) news
later-each commit first [] [] all may = tt
later-each commit first [] (new ∷ news) all may = absurd may
later-each commit first (old ∷ olds) [] all may = absurd may
later-each commit first (old ∷ olds) (new ∷ news) all may = (starts_longer commit first old new all.0 may.0, later-each commit first olds news all.1 may.1)

-- lists that begin with one do so with one more commit, or without
pub later-MayHave : (commit : Commit) (first : List Commit) (olds news : List (List Commit)) → All (λ list. StartsWith list first) olds → AllZip (MayHave commit) olds news → All (λ list. StartsWith list first) news
later-MayHave commit first olds news all may = All-from_recursion (λ list. StartsWith list first) news (later-each commit first olds news (recursion_from_All (λ list. StartsWith list first) olds all) may)

with-each : (commit : Commit) (first : List Commit) (lists : List (List Commit)) → AllByRecursion (λ list. list ≡ first) lists → AllByRecursion (λ list. list ≡ with_commit commit first) (map (with_commit commit) lists)
with-each commit first [] all = tt
with-each commit first (list ∷ lists) all = (ap (with_commit commit) all.0, with-each commit first lists all.1)

-- lists that are one are one with one more commit
pub all-with_commit : (commit : Commit) (first : List Commit) (lists : List (List Commit)) → All (λ list. list ≡ first) lists → All (λ list. list ≡ with_commit commit first) (map (with_commit commit) lists)
all-with_commit commit first lists all =
    All-from_recursion (λ list. list ≡ with_commit commit first) (map (with_commit commit) lists) (with-each commit first lists (recursion_from_All (λ list. list ≡ first) lists all))

later-one : (first : List Commit) (lists : List (List Commit)) → AllByRecursion (λ list. list ≡ first) lists → AllByRecursion (λ list. StartsWith list first) lists
later-one first [] all = tt
later-one first (list ∷ lists) all = (subst (λ l. StartsWith l first) (sym all.0) (starts_same first), later-one first lists all.1)

pub all-later : (first : List Commit) (lists : List (List Commit)) → All (λ list. list ≡ first) lists → All (λ list. StartsWith list first) lists
all-later first lists all = All-from_recursion (λ list. StartsWith list first) lists (later-one first lists (recursion_from_All (λ list. list ≡ first) lists all))

pub length-with_commit : (commit : Commit) (list : List Commit) → length (with_commit commit list) ≡ length list + 1
length-with_commit commit list = length-append list (commit ∷ [])

-- ---- lists that are empty

empties-more : (n : ℕ) → replicate n [] ++ [] ∷ [] ≡ replicate {A = List Commit} (suc n) []
empties-more zero = refl
empties-more (suc n) = ap (λ r. [] ∷ r) (empties-more n)

pub replicate-more : (n : ℕ) → replicate n [] ++ [] ∷ [] ≡ replicate {A = List Commit} (n + 1) []
replicate-more n = let next : suc n ≡ n + 1 = omega arith in empties-more n ∙ ap (λ k. replicate {A = List Commit} k []) next

pub first-empty : (n : ℕ) (list : List Commit) (lists : List (List Commit)) → list ∷ lists ≡ replicate n [] → list ≡ []
first-empty zero list lists is = cc
first-empty (suc n) list lists is = cc

-- one more pair, or not
pub all-pushed : {X : Type 0} (shown : X → List Commit) (P : List Commit → Type 0) (xs ys : List X) (x : X) (b : Bool) → ys ≡ (if b then xs ++ x ∷ [] else xs) → P (shown x) → All P (map shown xs) → All P (map shown ys)
all-pushed shown P xs ys x true is new all =
    subst (All P) (sym (ap (map shown) is ∙ map-append shown xs (x ∷ []))) (All-push P (map shown xs) (shown x) all new)
all-pushed shown P xs ys x false is new all = subst (λ zs. All P (map shown zs)) (sym is) all

pub begins_take : (first all : List Commit) → Begins first all → first ≡ take (length first) all
begins_take first all is = sym (ap (take (length first)) is.1 ∙ take_self first is.0)
