-- The text of a key reads back as its values.
use Rattle.std.proofs.lemmas.Bool.{and_from, true≢false, and_parts, cases_eq, cases_lt, ne_eqb}
use Rattle.std.proofs.lemmas.Fmt.{IsAscii-decimal, decimal_is_IsNumeral}
use Rattle.std.proofs.lemmas.Str.Parse.{digit_at}
use Rattle.json.proofs.Printed.Strings.{escape_byte_plain}
use Rattle.std.proofs.Common.{ℤ, IsTrue, ◌↔◌, ◌≢◌, zero, length, get_or, append_assoc, inl, inr, ◌≡◌, ◌≤◌, ◌<◌, ◌^◌, ◌==◌, ◌&&◌, nat_lt, Bool, true, false, not, cond, ℕ, suc, pos, negsuc, List, [], ◌∷◌, ◌++◌, Option, Some, None, option_map, refl, sym, ap, ◌∙◌, lit≤, lt-ltb, arith, append-nil, IsUtf8, subst}
use Rattle.std.specs.Prelude.{option_and_then, FitsSigned}
use Rattle.std.specs.Int.{w64}
use Rattle.std.specs.Str.{is_utf8}
use Rattle.std.specs.Fmt.{decimal, digits, signed_decimal}
use Rattle.std.specs.List.{list_all}
use Rattle.std.proofs.lemmas.Option.{none-some, same_Some}
use Rattle.std.proofs.lemmas.Str.{is_utf8-from_IsUtf8, IsUtf8-from_is_utf8, IsUtf8-append, IsUtf8-from_ascii}
use Rattle.json.specs.Token.{Token}
use Rattle.json.specs.Tree as tree
use Rattle.json.specs.Json as json
use Rattle.json.specs.Lex.{tokens}
use Rattle.json.specs.Print.{ArePrintable, IsNumber, escape, escape_byte}
use Rattle.json.specs.Word.{after_number}
use Rattle.json.proofs.Printed.Tokens.{tokens-print}
use Rattle.json.proofs.Printed.Trees.{value-json_tokens}
use Rattle.json.proofs.Printed.Decimals.{IsNumber-decimal, IsNumber-signed_decimal}
use Rattle.json.proofs.Printed.Utf8.{IsUtf8-quoted, IsUtf8-are_ascii}
use Rattle.serde_json.specs.Data.{Data, Items, array, item, number}
use Rattle.serde_json.specs.Find.{as_array}
use Rattle.serde_json.specs.Read.{of_items, of_json, read, max_depth}
use Rattle.serde_json.specs.Written.{compact_text, items_outline, items_text, outline}
use Rattle.serde_json.proofs.Numbers.{number_of-decimal, number_of-negative}
use Rattle.serde_json.proofs.Texts.{print-outline}
use Rattle.storm_values.specs.declared.value.Value.{Value}
use Rattle.storm_values.specs.declared.value.Value.TheVariants.{Int, Text}
use Rattle.storm_values.specs.Json.{data_of, items_of_values, json_of, value_of}
use Rattle.storm_values.specs.Keys.{text_of}
use Rattle.key_texts.specs.KeyTexts.{AreKeyValues, IsKey, IsKeyText, IsKeyValue, all_values, values_in}

abbrev whole : Option (json.Json × List Token) → Option Data
whole o = option_and_then of_json (option_and_then (λ p. json.if_last p.0 p.1) o)

value_back : (v : Value) → IsKeyValue v → of_json (outline (data_of v)) ≡ Some (data_of v)
value_back (Int (pos n)) h = ap (option_map number) (number_of-decimal n (omega arith))
value_back (Int (negsuc n)) h = ap (option_map number) (number_of-negative n (omega arith))
value_back (Text bytes) h = refl

items_back : (vs : List Value) → AreKeyValues vs → of_items (items_outline (items_of_values vs)) ≡ Some (items_of_values vs)
items_back [] h = refl
items_back (v ∷ vs) h =
    ap (option_and_then (λ d. option_map (item d) (of_items (items_outline (items_of_values vs))))) (value_back v h.0)
    ∙ ap (option_map (item (data_of v))) (items_back vs h.1)

-- the least number of 64 bits
least_printable : IsNumber (signed_decimal (negsuc 9223372036854775807))
unfolding after_number digits
least_printable = refl

signed_printable : (n : ℕ) → n < 2 ^ 63 → IsNumber (signed_decimal (negsuc n))
signed_printable n h = elim (cases_eq n 9223372036854775807) [
  | inl least ↦ rw least least_printable
  | inr other ↦ IsNumber-signed_decimal (negsuc n) (omega arith)
]

value_printable : (v : Value) → IsKeyValue v → (ts : List Token) → ArePrintable ts → ArePrintable (tree.json_tokens (outline (data_of v)) ++ ts)
unfolding ArePrintable
value_printable (Int (pos n)) h ts rest = (IsNumber-decimal n (omega arith), rest)
value_printable (Int (negsuc n)) h ts rest = (signed_printable n (omega arith), rest)
value_printable (Text bytes) h ts rest = (tt, rest)

items_printable : (vs : List Value) → AreKeyValues vs → ArePrintable (tree.items_tokens (items_outline (items_of_values vs)))
unfolding ArePrintable
items_printable [] h = (tt, tt)
items_printable (v ∷ vs) h = value_printable v h.0 _ (items_printable vs h.1)

printable : (vs : List Value) → AreKeyValues vs → ArePrintable (tree.json_tokens (outline (array (items_of_values vs))))
unfolding ArePrintable
printable vs h = (tt, items_printable vs h)

value_flat : (v : Value) → tree.depth (outline (data_of v)) ≡ 0
value_flat (Int (pos n)) = refl
value_flat (Int (negsuc n)) = refl
value_flat (Text bytes) = refl

items_flat : (vs : List Value) → tree.items_depth (items_outline (items_of_values vs)) ≡ 0
items_flat [] = refl
items_flat (v ∷ vs) = let a = value_flat v in let b = items_flat vs in rw (a, b) refl

-- the text of a key reads back as the array of its values
key_back : (vs : List Value) → AreKeyValues vs → read (text_of vs) ≡ Some (array (items_of_values vs))
unfolding text_of
key_back vs h =
    let d : Data = array (items_of_values vs) in
    let same : tokens (compact_text d) ≡ tree.json_tokens (outline d) = ap tokens (sym (print-outline d)) ∙ tokens-print (tree.json_tokens (outline d)) (printable vs h) in
    let shallow : tree.depth (outline d) ≤ max_depth = let f = items_flat vs in rw f (lit≤ tt) in
    ap (λ ts. whole (json.value max_depth ts)) (same ∙ sym (append-nil _))
    ∙ ap whole (value-json_tokens (outline d) max_depth [] shallow)
    ∙ ap (option_map array) (items_back vs h)

-- ---- it is a text in UTF-8

number_utf8 : (z : ℤ) → FitsSigned w64 z → IsUtf8 (signed_decimal z)
number_utf8 (pos n) h = IsUtf8-from_ascii _ (IsAscii-decimal n (omega arith))
number_utf8 (negsuc n) h =
    IsUtf8-append (45 ∷ []) _ (IsUtf8-are_ascii (45 ∷ []) refl) (IsUtf8-from_ascii _ (IsAscii-decimal (suc n) (omega arith)))

value_utf8 : (v : Value) → IsKeyValue v → IsUtf8 (compact_text (data_of v))
value_utf8 (Int (pos n)) h = number_utf8 (pos n) h
value_utf8 (Int (negsuc n)) h = number_utf8 (negsuc n) h
value_utf8 (Text bytes) h = IsUtf8-quoted bytes h

items_utf8 : (later : Bool) (vs : List Value) → AreKeyValues vs → IsUtf8 (items_text later (items_of_values vs))
items_utf8 later [] h = IsUtf8-are_ascii (93 ∷ []) refl
items_utf8 true (v ∷ vs) h =
    IsUtf8-append (44 ∷ []) _ (IsUtf8-are_ascii (44 ∷ []) refl) (IsUtf8-append (compact_text (data_of v)) _ (value_utf8 v h.0) (items_utf8 true vs h.1))
items_utf8 false (v ∷ vs) h = IsUtf8-append (compact_text (data_of v)) _ (value_utf8 v h.0) (items_utf8 true vs h.1)

text_utf8 : (vs : List Value) → AreKeyValues vs → IsUtf8 (text_of vs)
unfolding text_of
text_utf8 vs h = IsUtf8-append (91 ∷ []) _ (IsUtf8-are_ascii (91 ∷ []) refl) (items_utf8 false vs h)

-- ---- what is read of it

value_again : (v : Value) → IsKeyValue v → value_of (data_of v) ≡ Some v
value_again (Int (pos n)) h =
    let small : nat_lt n 9223372036854775808 ≡ true = lt-ltb _ _ (omega arith) in
    rw small refl
value_again (Int (negsuc n)) h = refl
value_again (Text bytes) h = refl

values_again : (vs : List Value) → AreKeyValues vs → all_values (items_of_values vs) ≡ Some vs
values_again [] h = refl
values_again (v ∷ vs) h =
    let first = value_again v h.0 in
    let rest = values_again vs h.1 in
    rw (first, rest) refl

read_as : (test : Bool) (found : Option Data) (entry : Data) → test ≡ true → found ≡ Some entry → cond test found None ≡ Some entry
read_as true found entry is spells = spells
read_as false found entry is spells = cc

pub key_reads : (vs : List Value) → AreKeyValues vs → values_in (text_of vs) ≡ Some vs
unfolding values_in json_of
key_reads vs h =
    let text : List ℕ = text_of vs in
    let spelled = read_as (is_utf8 text) (read text) (array (items_of_values vs)) (is_utf8-from_IsUtf8 text (text_utf8 vs h)) (key_back vs h) in
    ap (λ found. option_and_then all_values (option_and_then as_array found)) spelled ∙ values_again vs h

pub keys_one : (key other : List Value) → IsKey key → IsKey other → text_of key ≡ text_of other → key ≡ other
keys_one key other first second same =
    same_Some key other (sym (key_reads key first.each) ∙ (ap values_in same ∙ key_reads other second.each))

pub text_reads : (text : List ℕ) → IsKeyText text → (values : List Value) × IsKey values × (values_in text ≡ Some values) × (text ≡ text_of values)
text_reads text is = (is.values, is.is_key, ap values_in is.is_text ∙ key_reads is.values is.is_key.each, is.is_text)

-- the values so far, before what is read of the rest
abbrev pub after_values : List Value → Option (List Value) → Option (List Value)
after_values front None = None
after_values front (Some more) = Some (front ++ more)

pub one_value_more : (front : List Value) (entry : Data) (items : Items) (value : Value) → value_of entry ≡ Some value
    → after_values front (all_values (item entry items)) ≡ after_values (front ++ value ∷ []) (all_values items)
one_value_more front entry items value is =
    ap (λ r. after_values front (option_and_then (λ v. option_map (λ vs. v ∷ vs) (all_values items)) r)) is ∙ go (all_values items)
  where
    go : (rest : Option (List Value)) → after_values front (option_map (λ vs. value ∷ vs) rest) ≡ after_values (front ++ value ∷ []) rest
    go None = refl
    go (Some more) = ap Some (sym (append_assoc front (value ∷ []) more))

pub no_value_there : (front : List Value) (entry : Data) (items : Items) → value_of entry ≡ None
    → after_values front (all_values (item entry items)) ≡ None
no_value_there front entry items is =
    ap (λ r. after_values front (option_and_then (λ v. option_map (λ vs. v ∷ vs) (all_values items)) r)) is

pub one_value_pushed : (front : List Value) (value : Value) → AreKeyValues front → IsKeyValue value → AreKeyValues (front ++ value ∷ [])
one_value_pushed [] value are is = (is, tt)
one_value_pushed (v ∷ vs) value are is = (are.0, one_value_pushed vs value are.1 is)

-- ---- it is one line

abbrev OneLine : List ℕ → Type 0
OneLine text = list_all (λ byte. not (byte == 10)) text ≡ true

joined_line : (xs ys : List ℕ) → OneLine xs → OneLine ys → OneLine (xs ++ ys)
joined_line [] ys first second = second
joined_line (x ∷ xs) ys first second =
    let p = and_parts (not (x == 10)) (list_all (λ byte. not (byte == 10)) xs) first in
    and_from _ _ p.0 (joined_line xs ys p.1 second)

-- a text of other bytes is one line
other_bytes : (text : List ℕ) → ((k : ℕ) → k < length text → get_or text k 0 ≢ 10) → OneLine text
other_bytes [] others = refl
other_bytes (x ∷ xs) others =
    and_from _ _ (ap not (ne_eqb x 10 (others 0 (omega arith)))) (other_bytes xs (λ k below. others (suc k) (omega arith)))

decimal_line : (n : ℕ) → n < 2 ^ 64 → OneLine (decimal n)
decimal_line n small =
    other_bytes (decimal n) (λ k below is. absurd (omega (arith, digit_at (decimal n) k (decimal_is_IsNumeral n small).0.1 below)))

abbrev escapes_below : ℕ → Bool
escapes_below zero = true
escapes_below (suc n) = list_all (λ byte. not (byte == 10)) (escape_byte n) && escapes_below n

escape_below : (n : ℕ) → escapes_below n ≡ true → (x : ℕ) → x < n → OneLine (escape_byte x)
escape_below zero e x h = absurd (omega arith)
escape_below (suc n) e x h =
    let p = and_parts _ _ e in
    elim (cases_eq x n) [ inl same ↦ rw same p.0 | inr other ↦ escape_below n p.1 x (omega arith) ]

low_escapes : escapes_below 128 ≡ true
unfolding escape_byte
low_escapes = refl

escaped_line : (x : ℕ) → OneLine (escape_byte x)
escaped_line x = elim (cases_lt x 128) [
  | inl low ↦ escape_below 128 low_escapes x low
  | inr high ↦
      rw (escape_byte_plain x (λ e. omega arith) (λ e. omega arith) (omega arith), ne_eqb x 10 (λ e. omega arith)) refl
]

escape_line : (bytes : List ℕ) → OneLine (escape bytes)
escape_line [] = refl
escape_line (x ∷ xs) = joined_line (escape_byte x) (escape xs) (escaped_line x) (escape_line xs)

value_line : (v : Value) → IsKeyValue v → OneLine (compact_text (data_of v))
value_line (Int (pos n)) h = decimal_line n (omega arith)
value_line (Int (negsuc n)) h = decimal_line (suc n) (omega arith)
value_line (Text bytes) h = joined_line (escape bytes) (34 ∷ []) (escape_line bytes) refl

items_line : (later : Bool) (vs : List Value) → AreKeyValues vs → OneLine (items_text later (items_of_values vs))
items_line later [] h = refl
items_line true (v ∷ vs) h = joined_line (compact_text (data_of v)) _ (value_line v h.0) (items_line true vs h.1)
items_line false (v ∷ vs) h = joined_line (compact_text (data_of v)) _ (value_line v h.0) (items_line true vs h.1)

pub text_is_one_line : (text : List ℕ) → IsKeyText text → OneLine text
unfolding text_of
text_is_one_line text is = subst OneLine (sym is.is_text) (items_line false is.values is.is_key.each)

-- ---- what the bytes spell

pub json_of-Some : (bytes : List ℕ) (entry : Data) → IsUtf8 bytes → read bytes ≡ Some entry → json_of bytes ≡ Some entry
unfolding json_of
json_of-Some bytes entry utf8 spells = read_as (is_utf8 bytes) (read bytes) entry (is_utf8-from_IsUtf8 bytes utf8) spells

read_not : (test : Bool) (found : Option Data) → (test ≡ true → found ≡ None) → cond test found None ≡ None
read_not true found none = none refl
read_not false found none = refl

pub json_of-None : (bytes : List ℕ) → (IsUtf8 bytes → read bytes ≡ None) → json_of bytes ≡ None
unfolding json_of
json_of-None bytes none = read_not (is_utf8 bytes) (read bytes) (λ is. none (IsUtf8-from_is_utf8 bytes is))

-- ---- which texts are keys

pub no_values : (text : List ℕ) → values_in text ≡ None → IsTrue false ↔ IsKeyText text
no_values text none = (
  λ is. absurd (true≢false (sym is)),
  λ is. let read = text_reads text is in absurd (none-some read.0 (sym none ∙ read.2)),
)

pub other_values : (text : List ℕ) (values : List Value) → Some values ≡ values_in text → (IsKey values → ⊥)
    → IsTrue false ↔ IsKeyText text
other_values text values found other = (
  λ is. absurd (true≢false (sym is)),
  λ is.
      let read = text_reads text is in
      absurd (other (subst IsKey (sym (same_Some values read.0 (found ∙ read.2))) read.1)),
)

pub key_values : (text : List ℕ) (values : List Value) (is : Bool) → Some values ≡ values_in text → IsKey values
    → (IsTrue is ↔ (text ≡ text_of values)) → IsTrue is ↔ IsKeyText text
key_values text values is found key written = (
  λ same. record { values = values; is_key = key; is_text = written.0 same },
  λ is.
      let read = text_reads text is in
      written.1 (read.3 ∙ ap text_of (sym (same_Some values read.0 (found ∙ read.2)))),
)

pub text_is_utf8 : (text : List ℕ) → IsKeyText text → IsUtf8 text
text_is_utf8 text is = subst IsUtf8 (sym is.is_text) (text_utf8 is.values is.is_key.each)
