-- The bytes and the text of a key, a value at a time.
use Rattle.std.proofs.Common.{◌≡◌, ℕ, ◌≤◌, ◌==◌, nat_lt, Bool, true, false, List, [], ◌∷◌, ◌++◌, length, map, fold, pos, negsuc, refl, ap, sym, ◌∙◌, arith}
use Rattle.std.proofs.lemmas.Bool.Decides.{nat_tests}
use Rattle.std.proofs.lemmas.List.{append_assoc}
use Rattle.std.proofs.lemmas.List.Sums.{fold-append}
use Rattle.json.specs.Token.{Token}
use Rattle.json.specs.Print.{print, print_from, escape, escape_byte}
use Rattle.serde_json.specs.Written.{compact_text, items_text}
use Rattle.storm_values.specs.declared.value.Value.{Value}
use Rattle.storm_values.specs.declared.value.Value.TheVariants.{Int, Text}
use Rattle.storm_values.specs.Json.{data_of, items_of_values}
use Rattle.storm_values.specs.Keys.{value_bytes, key_bytes, fnv_step, fnv_offset, hash_of, text_of, quoted, token_of}
use Rattle.storm_values.specs.steps.Hashing.{bytes_at, hash_more}

key_bytes-next : (first : Value) (values : List Value) (value : Value)
    → key_bytes (first ∷ (values ++ value ∷ [])) ≡ key_bytes (first ∷ values) ++ 0x1F ∷ value_bytes value
key_bytes-next first [] value = refl
key_bytes-next first (next ∷ values) value =
    ap (λ bytes. value_bytes first ++ 0x1F ∷ bytes) (key_bytes-next next values value) ∙ sym (append_assoc (value_bytes first) (0x1F ∷ key_bytes (next ∷ values)) _)

-- the bytes of a key with one more value
pub key_bytes-push : (values : List Value) (value : Value) → key_bytes (values ++ value ∷ []) ≡ key_bytes values ++ bytes_at (length values) value
key_bytes-push [] value = refl
key_bytes-push (first ∷ values) value =
    let later : (length (first ∷ values) == 0) ≡ false = grind (arith, nat_tests) in
    rw later (key_bytes-next first values value)

-- the hash of a key with one more value
pub hash-push : (values : List Value) (value : Value) (hash place : ℕ) → hash ≡ fold fnv_step fnv_offset (key_bytes values) → place ≡ length values
    → hash_more hash place value ≡ fold fnv_step fnv_offset (key_bytes (values ++ value ∷ []))
hash-push values value hash place is at =
    rw (is, at, key_bytes-push values value) (sym (fold-append fnv_step fnv_offset (key_bytes values) (bytes_at (length values) value)))

pub hash-whole : (values : List Value) → fold fnv_step fnv_offset (key_bytes values) ≡ hash_of values
unfolding hash_of
hash-whole values = refl

print-values : (later : Bool) (key : List Value) → print_from later (map token_of key ++ Token.end_array ∷ []) ≡ items_text later (items_of_values key)
unfolding print_from
print-values true [] = refl
print-values false [] = refl
print-values true (Int (pos n) ∷ key) = ap (λ rest. 44 ∷ (compact_text (data_of (Int (pos n))) ++ rest)) (print-values true key)
print-values false (Int (pos n) ∷ key) = ap (λ rest. compact_text (data_of (Int (pos n))) ++ rest) (print-values true key)
print-values true (Int (negsuc n) ∷ key) = ap (λ rest. 44 ∷ (compact_text (data_of (Int (negsuc n))) ++ rest)) (print-values true key)
print-values false (Int (negsuc n) ∷ key) = ap (λ rest. compact_text (data_of (Int (negsuc n))) ++ rest) (print-values true key)
print-values true (Text bytes ∷ key) = ap (λ rest. 44 ∷ (compact_text (data_of (Text bytes)) ++ rest)) (print-values true key)
print-values false (Text bytes ∷ key) = ap (λ rest. compact_text (data_of (Text bytes)) ++ rest) (print-values true key)

-- the tokens of an array of a key's values are printed as the key's text
pub print-key : (key : List Value) → print ((Token.begin_array ∷ map token_of key) ++ Token.end_array ∷ []) ≡ text_of key
unfolding text_of print_from
print-key key = ap (λ rest. 91 ∷ rest) (print-values false key)

-- a byte that is no control character, no quotation mark and no backslash stands for itself
pub plain-byte : (x : ℕ) → 32 ≤ x → (x ≡ 34 → ⊥) → (x == 92) ≡ false → escape_byte x ≡ x ∷ []
unfolding escape_byte
plain-byte x shown quote slash =
    let q : (x == 34) ≡ false = grind (arith, nat_tests) in
    let e : (x == 8) ≡ false = grind (arith, nat_tests) in
    let f : (x == 12) ≡ false = grind (arith, nat_tests) in
    let n : (x == 10) ≡ false = grind (arith, nat_tests) in
    let r : (x == 13) ≡ false = grind (arith, nat_tests) in
    let t : (x == 9) ≡ false = grind (arith, nat_tests) in
    let control : nat_lt x 32 ≡ false = grind (arith, nat_tests) in
    rw (q, slash, e, f, n, r, t, control) refl

-- the text of a key that is one text in which nothing is escaped
pub text_of-plain : (bytes : List ℕ) → escape bytes ≡ bytes → text_of (Text bytes ∷ []) ≡ quoted bytes
unfolding text_of
text_of-plain bytes plain = rw plain (ap (λ rest. 91 ∷ 34 ∷ rest) (append_assoc bytes (34 ∷ []) (93 ∷ [])))
