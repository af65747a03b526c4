-- Lists, and words of sources in order.
use Rattle.std.proofs.Common.{◌≡◌, ◌<◌, ℕ, zero, suc, ◌+◌, List, [], ◌∷◌, ◌++◌, length, map, None, Some, set, get_or, sym, refl, ap, subst, ◌∙◌, length-append, arith}
use Rattle.std.specs.Prelude.{slice_get}
use Rattle.std.specs.List.{AllByRecursion, AllZip, range_with_len}
use Rattle.std.proofs.lemmas.List.{map-append}
use Rattle.std.proofs.lemmas.List.FromFn.{length-map-range_with_len}

range-append : (k m n : ℕ) → range_with_len k (m + n) ≡ range_with_len k m ++ range_with_len (k + m) n
range-append k zero n = ap (λ (j : ℕ). range_with_len k j) (let e : zero + n ≡ n = omega arith in e) ∙ ap (λ (j : ℕ). range_with_len j n) (let e : k ≡ k + zero = omega arith in e)
range-append k (suc m) n =
    ap (λ (j : ℕ). range_with_len k j) (let e : suc m + n ≡ suc (m + n) = omega arith in e) ∙ (λ i. k ∷ range-append (k + 1) m n i)
    ∙ ap (λ (j : ℕ). k ∷ range_with_len (k + 1) m ++ range_with_len j n) (let e : k + 1 + m ≡ k + suc m = omega arith in e)

words-append : (w : ℕ → ℕ) (k m n : ℕ) → map w (range_with_len k (m + n)) ≡ map w (range_with_len k m) ++ map w (range_with_len (k + m) n)
words-append w k m n = ap (map w) (range-append k m n) ∙ map-append w (range_with_len k m) (range_with_len (k + m) n)

append-split : {X : Type 0} (xs xs' ys ys' : List X) → length xs ≡ length xs' → xs ++ ys ≡ xs' ++ ys' → (xs ≡ xs') × (ys ≡ ys')
append-split [] [] ys ys' len is = (refl, is)
append-split [] (x ∷ xs') ys ys' len is = absurd (omega arith)
append-split (x ∷ xs) [] ys ys' len is = absurd (omega arith)
append-split (x ∷ xs) (x' ∷ xs') ys ys' len is =
    let head : x ≡ x' = cc in
    let tail : xs ++ ys ≡ xs' ++ ys' = cc in
    let rest = append-split xs xs' ys ys' (omega arith) tail in ((λ i. head i ∷ rest.0 i), rest.1)

-- words in a row are words in two rows
pub words-split : (w : ℕ → ℕ) (k : ℕ) (xs ys : List ℕ) → xs ++ ys ≡ map w (range_with_len k (length (xs ++ ys)))
    → (xs ≡ map w (range_with_len k (length xs))) × (ys ≡ map w (range_with_len (k + length xs) (length ys)))
words-split w k xs ys is =
    append-split xs (map w (range_with_len k (length xs))) ys (map w (range_with_len (k + length xs) (length ys)))
    (sym (length-map-range_with_len w k (length xs)))
    (is ∙ ap (λ (n : ℕ). map w (range_with_len k n)) (length-append xs ys) ∙ words-append w k (length xs) (length ys))

-- ---- a list in which one item changed

pub is_one : {X : Type 0} (x y : X) → Some x ≡ Some y → x ≡ y
is_one x y is = cc

not_first : (n : ℕ) → suc n ≡ zero → ⊥
not_first n is = omega arith

not_last : (n : ℕ) → zero ≡ suc n → ⊥
not_last n is = omega arith

less_one : (m n : ℕ) → suc m ≡ suc n → m ≡ n
less_one m n is = omega arith

-- what was at a place, and what is there
pub was_in : {X : Type 0} (xs : List X) (n m : ℕ) (a b d : X) → slice_get xs n ≡ Some a → slice_get xs m ≡ Some d → (P : ℕ → X → X → Type 0) → P n a b → ((m ≡ n → ⊥) → P m d d)
    → (e : X) × (slice_get (set xs n b) m ≡ Some e) × P m d e
was_in [] n m a b d at there P here else = absurd (let e : None ≡ Some a = at in cc)
was_in (x ∷ xs) zero zero a b d at there P here else =
    let e : a ≡ d = is_one a d (sym at ∙ there) in (b, refl, subst (λ q. P zero q b) e here)
was_in (x ∷ xs) zero (suc m) a b d at there P here else = (d, there, else (not_first m))
was_in (x ∷ xs) (suc n) zero a b d at there P here else = (d, there, else (not_last n))
was_in (x ∷ xs) (suc n) (suc m) a b d at there P here else = was_in xs n m a b d at there (λ (k : ℕ). P (suc k)) here (λ other. else (λ is. other (less_one m n is)))

pub is_in : {X : Type 0} (xs : List X) (n m : ℕ) (a b d : X) → slice_get xs n ≡ Some a → slice_get (set xs n b) m ≡ Some d → (P : ℕ → X → Type 0) → P n b → ((m ≡ n → ⊥) → slice_get xs m ≡ Some d → P m d) → P m d
is_in [] n m a b d at there P here else = absurd (let e : None ≡ Some a = at in cc)
is_in (x ∷ xs) zero zero a b d at there P here else = subst (P zero) (is_one b d there) here
is_in (x ∷ xs) zero (suc m) a b d at there P here else = else (not_first m) there
is_in (x ∷ xs) (suc n) zero a b d at there P here else = else (not_last n) there
is_in (x ∷ xs) (suc n) (suc m) a b d at there P here else = is_in xs n m a b d at there (λ (k : ℕ). P (suc k)) here (λ other now. else (λ is. other (less_one m n is)) now)

-- ---- pairs

-- pairs of pairs
pub zip-by : {X : Type 0} (R S T : X → X → Type 0) → ((x y z : X) → R x y → S y z → T x z) → (xs ys zs : List X) → AllZip R xs ys → AllZip S ys zs → AllZip T xs zs
zip-by R S T then [] [] [] one two = tt
zip-by R S T then [] [] (z ∷ zs) one two = absurd two
zip-by R S T then [] (y ∷ ys) zs one two = absurd one
zip-by R S T then (x ∷ xs) [] zs one two = absurd one
zip-by R S T then (x ∷ xs) (y ∷ ys) [] one two = absurd two
zip-by R S T then (x ∷ xs) (y ∷ ys) (z ∷ zs) one two = (then x y z one.0 two.0, zip-by R S T then xs ys zs one.1 two.1)

-- what holds of the second of each pair holds of the first
pub zip-before : {X : Type 0} (R : X → X → Type 0) (P Q : X → Type 0) → ((x y : X) → R x y → Q y → P x) → (xs ys : List X) → AllZip R xs ys → AllByRecursion Q ys → AllByRecursion P xs
zip-before R P Q before [] ys all each = tt
zip-before R P Q before (x ∷ xs) [] all each = absurd all
zip-before R P Q before (x ∷ xs) (y ∷ ys) all each = (before x y all.0 each.0, zip-before R P Q before xs ys all.1 each.1)

-- from places
pub zip-from : {X : Type 0} (R : X → X → Type 0) (xs ys : List X) → length ys ≡ length xs → ((m : ℕ) → m < length xs → (x y : X) → slice_get xs m ≡ Some x → slice_get ys m ≡ Some y → R x y) → AllZip R xs ys
zip-from R [] [] many each = tt
zip-from R [] (y ∷ ys) many each = absurd (omega arith)
zip-from R (x ∷ xs) [] many each = absurd (omega arith)
zip-from R (x ∷ xs) (y ∷ ys) many each = (each zero (omega arith) x y refl refl, zip-from R xs ys (omega arith) (λ m below a b at there. each (suc m) (omega arith) a b at there))

module _ {X : Type 0} (R : X → X → Type 0) where
  pub zip-same : ((x : X) → R x x) → (xs : List X) → AllZip R xs xs
  zip-same same [] = tt
  zip-same same (x ∷ xs) = (same x, zip-same same xs)

  pub zip-then : ((x y z : X) → R x y → R y z → R x z) → (xs ys zs : List X) → AllZip R xs ys → AllZip R ys zs → AllZip R xs zs
  zip-then then xs ys zs one two = zip-by R R R then xs ys zs one two

  pub zip-set : ((x : X) → R x x) → (xs : List X) (n : ℕ) (x y : X) → slice_get xs n ≡ Some x → R x y → AllZip R xs (set xs n y)
  zip-set same [] n x y at here = tt
  zip-set same (z ∷ zs) zero x y at here = (subst (λ (w : X). R w y) (is_one x z (sym at)) here, zip-same same zs)
  zip-set same (z ∷ zs) (suc n) x y at here = (same z, zip-set same zs n x y at here)

-- from places to pairs
pub zipped : {X : Type 0} (R : X → X → Type 0) (xs ys : List X) → length ys ≡ length xs → ((i : ℕ) (d : X) → i < length xs → R (get_or xs i d) (get_or ys i d)) → AllZip R xs ys
zipped R [] [] many each = tt
zipped R [] (y ∷ ys) many each = absurd (omega arith)
zipped R (x ∷ xs) [] many each = absurd (omega arith)
zipped R (x ∷ xs) (y ∷ ys) many each = (each 0 x (omega arith), zipped R xs ys (omega arith) (λ i d below. each (suc i) d (omega arith)))
