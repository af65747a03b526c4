-- Keys with one text have one hash: the text of a key gives back the bytes of its values.
use Rattle.std.proofs.Common.{◌≡◌, ◌≤◌, ◌<◌, ◌⊎◌, inl, inr, ℕ, zero, suc, ◌/◌, ◌%◌, ◌==◌, Bool, true, false, cond, ℤ, pos, negsuc, List, [], ◌∷◌, ◌++◌, drop, get_or, map, fold, refl, sym, ap, ◌∙◌, arith, append_assoc}
use Rattle.std.proofs.lemmas.Option.{same_Some}
use Rattle.std.specs.Fmt.{decimal, digit_glyph, digits, digits_onto, signed_decimal}
use Rattle.json.specs.Print.{escape, quoted}
use Rattle.json.specs.Text.{content, plain}
use Rattle.json.proofs.Printed.Strings.{content-escape}
use Rattle.serde_json.specs.Written.{compact_text, items_text}
use Rattle.tree_model.specs.storm_values.declared.value.Value.{Value}
use Rattle.tree_model.specs.storm_values.declared.value.Value.TheVariants.{Int, Text}
use Rattle.tree_model.specs.storm_values.Json.{data_of, items_of_values}
use Rattle.tree_model.specs.storm_values.Keys.{fnv_offset, fnv_step, hash_of, key_bytes, text_of, value_bytes}

-- ---- lists of bytes that begin alike

first_is : (x y : ℕ) (xs ys : List ℕ) → x ∷ xs ≡ y ∷ ys → x ≡ y
first_is x y xs ys same = ap (λ (l : List ℕ). get_or l 0 0) same

rest_is : (x y : ℕ) (xs ys : List ℕ) → x ∷ xs ≡ y ∷ ys → xs ≡ ys
rest_is x y xs ys same = ap (λ (l : List ℕ). drop 1 l) same

after_same : (front xs ys : List ℕ) → front ++ xs ≡ front ++ ys → xs ≡ ys
after_same [] xs ys same = same
after_same (z ∷ front) xs ys same = after_same front xs ys (rest_is z z (front ++ xs) (front ++ ys) same)

-- ---- numbers

-- a digit or a sign
abbrev IsOfNumber : ℕ → Type 0
IsOfNumber x = (45 ≤ x) × (x ≤ 57)

abbrev AreOfNumber : List ℕ → Type 0
AreOfNumber [] = Unit {0}
AreOfNumber (x ∷ xs) = IsOfNumber x × AreOfNumber xs

abbrev IsNumeral : List ℕ → Type 0
IsNumeral [] = ⊥
IsNumeral (x ∷ xs) = IsOfNumber x × AreOfNumber xs

glyph_of_number : (n : ℕ) → n < 10 → IsOfNumber (digit_glyph false n)
glyph_of_number n small = grind arith

digits_numeral : (k n x : ℕ) (xs : List ℕ) → IsOfNumber x → AreOfNumber xs → IsNumeral (digits_onto k 10 false n (x ∷ xs))
digits_numeral zero n x xs first rest = (first, rest)
digits_numeral (suc k) n x xs first rest = cases (n / 10 == 0) (digits_numeral k (n / 10) (digit_glyph false (n % 10)) (x ∷ xs) (glyph_of_number (n % 10) (omega arith)) (first, rest))
  where
    digit : ℕ
    digit = digit_glyph false (n % 10)

    cases : (last : Bool) → IsNumeral (digits_onto k 10 false (n / 10) (digit ∷ x ∷ xs)) → IsNumeral (cond last (digit ∷ x ∷ xs) (digits_onto k 10 false (n / 10) (digit ∷ x ∷ xs)))
    cases true more = (glyph_of_number (n % 10) (omega arith), (first, rest))
    cases false more = more

decimal_numeral : (n : ℕ) → IsNumeral (decimal n)
unfolding digits
decimal_numeral n = cases (n / 10 == 0)
  where
    digit : ℕ
    digit = digit_glyph false (n % 10)

    digit_is : IsOfNumber digit
    digit_is = glyph_of_number (n % 10) (omega arith)

    cases : (last : Bool) → IsNumeral (cond last (digit ∷ []) (digits_onto 63 10 false (n / 10) (digit ∷ [])))
    cases true = (digit_is, tt)
    cases false = digits_numeral 63 (n / 10) digit [] digit_is tt

of_numeral : (xs : List ℕ) → IsNumeral xs → AreOfNumber xs
of_numeral [] is = tt
of_numeral (x ∷ xs) is = is

number_numeral : (z : ℤ) → IsNumeral (signed_decimal z)
number_numeral (pos n) = decimal_numeral n
number_numeral (negsuc n) = ((omega arith, omega arith), of_numeral (decimal (suc n)) (decimal_numeral (suc n)))

-- a comma or a closing bracket comes first
abbrev Ends : List ℕ → Type 0
Ends [] = ⊥
Ends (x ∷ xs) = (x ≡ 44) ⊎ (x ≡ 93)

not_ended : (x y : ℕ) → IsOfNumber x → (y ≡ 44) ⊎ (y ≡ 93) → x ≡ y → ⊥
not_ended x y of (inl comma) same = omega arith
not_ended x y of (inr bracket) same = omega arith

-- a number and what comes after it are known by their bytes
numbers_part : (xs ys r s : List ℕ) → AreOfNumber xs → AreOfNumber ys → Ends r → Ends s → xs ++ r ≡ ys ++ s → (xs ≡ ys) × (r ≡ s)
numbers_part [] [] r s xs_are ys_are r_ends s_ends same = (refl, same)
numbers_part [] (y ∷ ys) [] s xs_are ys_are r_ends s_ends same = absurd r_ends
numbers_part [] (y ∷ ys) (x ∷ r) s xs_are ys_are r_ends s_ends same = absurd (not_ended y x ys_are.0 r_ends (sym (first_is x y r (ys ++ s) same)))
numbers_part (x ∷ xs) [] r [] xs_are ys_are r_ends s_ends same = absurd s_ends
numbers_part (x ∷ xs) [] r (y ∷ s) xs_are ys_are r_ends s_ends same = absurd (not_ended x y xs_are.0 s_ends (first_is x y (xs ++ r) s same))
numbers_part (x ∷ xs) (y ∷ ys) r s xs_are ys_are r_ends s_ends same =
    let later = numbers_part xs ys r s xs_are.1 ys_are.1 r_ends s_ends (rest_is x y (xs ++ r) (ys ++ s) same) in
    let first : x ≡ y = first_is x y (xs ++ r) (ys ++ s) same in
    ((λ i. first i ∷ later.0 i), later.1)

-- ---- texts

quoted_then : (s r : List ℕ) → quoted s ++ r ≡ 34 ∷ (escape s ++ 34 ∷ r)
quoted_then s r = ap (λ (l : List ℕ). 34 ∷ l) (append_assoc (escape s) (34 ∷ []) r)

-- a text in quotes and what comes after it are known by their bytes
texts_part : (s t r q : List ℕ) → quoted s ++ r ≡ quoted t ++ q → (s ≡ t) × (r ≡ q)
texts_part s t r q same =
    let inside : escape s ++ 34 ∷ r ≡ escape t ++ 34 ∷ q =
    rest_is 34 34 (escape s ++ 34 ∷ r) (escape t ++ 34 ∷ q) (sym (quoted_then s r) ∙ same ∙ quoted_then t q) in
    let text : s ≡ t = same_Some s t (sym (content-escape s r) ∙ ap (λ (l : List ℕ). content plain l) inside ∙ content-escape t q) in
    let behind : 34 ∷ r ≡ 34 ∷ q = after_same (escape t) (34 ∷ r) (34 ∷ q) (sym (ap (λ (u : List ℕ). escape u ++ 34 ∷ r) text) ∙ inside) in
    (text, rest_is 34 34 r q behind)

-- ---- values

abbrev value_text : Value → List ℕ
value_text (Int number) = signed_decimal number
value_text (Text bytes) = quoted bytes

text_is : (value : Value) → compact_text (data_of value) ≡ value_text value
text_is (Int (pos n)) = refl
text_is (Int (negsuc n)) = refl
text_is (Text bytes) = refl

abbrev IsBelow : List ℕ → Type 0
IsBelow [] = ⊥
IsBelow (x ∷ xs) = x ≤ 57

number_below : (xs r : List ℕ) → IsNumeral xs → IsBelow (xs ++ r)
number_below [] r is = absurd is
number_below (x ∷ xs) r is = is.0.1

value_below : (value : Value) (r : List ℕ) → IsBelow (value_text value ++ r)
value_below (Int number) r = number_below (signed_decimal number) r (number_numeral number)
value_below (Text bytes) r = omega arith

number_no_text : (xs r q : List ℕ) → IsNumeral xs → xs ++ r ≡ 34 ∷ q → ⊥
number_no_text [] r q is same = absurd is
number_no_text (x ∷ xs) r q is same = let first : x ≡ 34 = first_is x 34 (xs ++ r) q same in let least = is.0.0 in omega arith

-- a value and what comes after it are known by their bytes
values_part : (a b : Value) (r s : List ℕ) → Ends r → Ends s → value_text a ++ r ≡ value_text b ++ s → (value_bytes a ≡ value_bytes b) × (r ≡ s)
values_part (Int m) (Int n) r s r_ends s_ends same =
    numbers_part (signed_decimal m) (signed_decimal n) r s (of_numeral (signed_decimal m) (number_numeral m)) (of_numeral (signed_decimal n) (number_numeral n)) r_ends s_ends same
values_part (Int m) (Text bytes) r s r_ends s_ends same = absurd (number_no_text (signed_decimal m) r _ (number_numeral m) same)
values_part (Text bytes) (Int n) r s r_ends s_ends same = absurd (number_no_text (signed_decimal n) s _ (number_numeral n) (sym same))
values_part (Text bytes) (Text others) r s r_ends s_ends same = texts_part bytes others r s same

-- ---- keys

items_end : (values : List Value) → Ends (items_text true (items_of_values values))
items_end [] = inr refl
items_end (value ∷ values) = inl refl

-- what stands behind a comma
abbrev behind : Value → List Value → List ℕ
behind value values = value_text value ++ items_text true (items_of_values values)

behind_is : (value : Value) (values : List Value) → compact_text (data_of value) ++ items_text true (items_of_values values) ≡ behind value values
behind_is value values = ap (λ (l : List ℕ). l ++ items_text true (items_of_values values)) (text_is value)

first_known : (value : Value) (values : List Value) → items_text false (items_of_values (value ∷ values)) ≡ behind value values
first_known value values = behind_is value values

later_known : (value : Value) (values : List Value) → items_text true (items_of_values (value ∷ values)) ≡ 44 ∷ behind value values
later_known value values = ap (λ (l : List ℕ). 44 ∷ l) (behind_is value values)

below_no_bracket : (xs : List ℕ) → IsBelow xs → 93 ∷ [] ≡ xs → ⊥
below_no_bracket [] below same = absurd below
below_no_bracket (x ∷ xs) below same = let first : 93 ≡ x = first_is 93 x [] xs same in omega arith

both_same : (a b : Value) (us vs : List Value) → (items_text true (items_of_values us) ≡ items_text true (items_of_values vs) → map value_bytes us ≡ map value_bytes vs) → behind a us ≡ behind b vs → map value_bytes (a ∷ us) ≡ map value_bytes (b ∷ vs)
both_same a b us vs later same =
    let parts = values_part a b (items_text true (items_of_values us)) (items_text true (items_of_values vs)) (items_end us) (items_end vs) same in
    let rest : map value_bytes us ≡ map value_bytes vs = later parts.1 in
    (λ i. parts.0 i ∷ rest i)

later_same : (us vs : List Value) → items_text true (items_of_values us) ≡ items_text true (items_of_values vs) → map value_bytes us ≡ map value_bytes vs
later_same [] [] same = refl
later_same [] (b ∷ vs) same = absurd (let first : 93 ≡ 44 = first_is 93 44 [] (behind b vs) (same ∙ later_known b vs) in omega arith)
later_same (a ∷ us) [] same = absurd (let first : 93 ≡ 44 = first_is 93 44 [] (behind a us) (sym same ∙ later_known a us) in omega arith)
later_same (a ∷ us) (b ∷ vs) same = both_same a b us vs (later_same us vs) (rest_is 44 44 (behind a us) (behind b vs) (sym (later_known a us) ∙ same ∙ later_known b vs))

all_same : (us vs : List Value) → items_text false (items_of_values us) ≡ items_text false (items_of_values vs) → map value_bytes us ≡ map value_bytes vs
all_same [] [] same = refl
all_same [] (b ∷ vs) same = absurd (below_no_bracket (behind b vs) (value_below b _) (same ∙ first_known b vs))
all_same (a ∷ us) [] same = absurd (below_no_bracket (behind a us) (value_below a _) (sym same ∙ first_known a us))
all_same (a ∷ us) (b ∷ vs) same = both_same a b us vs (later_same us vs) (sym (first_known a us) ∙ same ∙ first_known b vs)

abbrev joined : List (List ℕ) → List ℕ
joined [] = []
joined (xs ∷ []) = xs
joined (xs ∷ ys ∷ rest) = xs ++ 0x1F ∷ joined (ys ∷ rest)

bytes_joined : (values : List Value) → key_bytes values ≡ joined (map value_bytes values)
bytes_joined [] = refl
bytes_joined (value ∷ []) = refl
bytes_joined (value ∷ next ∷ values) = ap (λ (l : List ℕ). value_bytes value ++ 0x1F ∷ l) (bytes_joined (next ∷ values))

-- keys with one text have one hash
pub one_hash : (us vs : List Value) → text_of us ≡ text_of vs → hash_of us ≡ hash_of vs
unfolding text_of hash_of
one_hash us vs same =
    let values : map value_bytes us ≡ map value_bytes vs = all_same us vs (rest_is 91 91 (items_text false (items_of_values us)) (items_text false (items_of_values vs)) same) in
    ap (λ (bytes : List ℕ). fold fnv_step fnv_offset bytes) (bytes_joined us ∙ ap joined values ∙ sym (bytes_joined vs))
