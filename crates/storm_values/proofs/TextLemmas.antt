-- A text in a JSON value is no longer than the bytes that spell the value.
use Rattle.std.proofs.Common.{◌≡◌, ℕ, zero, suc, ◌+◌, ◌≤◌, Bool, true, false, cond, ◌&&◌, ◌==◌, nat_lt, nat_eq, drop, List, [], ◌∷◌, length, Option, Some, None, option_map, option_and_then, refl, subst, arith}
use Rattle.std.proofs.lemmas.List.{length-append}
use Rattle.std.specs.List.{starts_with}
use Rattle.std.specs.Char.{encode_utf8}
use Rattle.json.specs.Token.{Token}
use Rattle.json.specs.Text.{code_unit, short_escape, is_high_surrogate, is_low_surrogate, surrogate_pair, Within, plain, after_backslash, after_u, after_high, prepend, content}
use Rattle.json.specs.Ascii as ascii
use Rattle.json.specs.Word.{word, head, literal, number_before, after_number, ends_word}
use Rattle.json.specs.Lex.{Lexeme, token, comma, colon, Class, quote, backslash, operator, space, other, Mode, between, in_word, in_string, in_escape, class, operator_lexeme, string_token, lex_byte, lex, Place, fresh, after_value, after_comma, after_key, begins_colon, if_allowed, place_token, punctuate, tokens}
use Rattle.json.specs.Json as json
use Rattle.json.proofs.Grammar.{closed_array, key_token, read_key_is}
use Rattle.std.specs.Str.{is_utf8}
use Rattle.serde_json.specs.Data.{Data, null, boolean, number, string, array, object, Items, no_items, item, no_members}
use Rattle.serde_json.specs.Find.{as_array}
use Rattle.serde_json.specs.Read.{number_of, of_json, of_items, of_members, max_depth, read}
use Rattle.storm_values.specs.Json.{json_of}
use Rattle.storm_values.specs.Lines.{array_of}

-- ---- the content of a string

abbrev AtMost : ℕ → Option (List ℕ) → Type 0
AtMost n None = Unit {0}
AtMost n (Some text) = length text ≤ n

either_case : (n : ℕ) (test : Bool) (x y : Option (List ℕ)) → AtMost n x → AtMost n y → AtMost n (cond test x y)
either_case n true x y first second = first
either_case n false x y first second = second

found_then : (n : ℕ) (f : ℕ → Option (List ℕ)) (found : Option ℕ) → ((u : ℕ) → AtMost n (f u)) → AtMost n (option_and_then f found)
found_then n f None each = tt
found_then n f (Some u) each = each u

at_most_more : (n m : ℕ) (found : Option (List ℕ)) → AtMost m found → m ≤ n → AtMost n found
at_most_more n m None within le = tt
at_most_more n m (Some text) within le = omega arith

at_most_longer : (n m : ℕ) (bytes : List ℕ) (found : Option (List ℕ)) → AtMost m found → length bytes + m ≤ n → AtMost n (prepend bytes found)
at_most_longer n m bytes None within le = tt
at_most_longer n m bytes (Some text) within le = omega (arith, length-append bytes text)

length-encode : (u : ℕ) → length (encode_utf8 u) ≤ 4
unfolding encode_utf8
length-encode u = grind arith

-- the unescaped bytes are no more than those up to the end
content-shorter : (place : Within) (xs : List ℕ) → AtMost (length xs) (content place xs)
unfolding content
content-shorter plain [] = tt
content-shorter plain (x ∷ xs) =
    let n = length (x ∷ xs) in
    let later = at_most_more n _ _ (content-shorter after_backslash xs) (omega arith) in
    let more = at_most_longer n _ (x ∷ []) _ (content-shorter plain xs) (omega arith) in
    either_case n (x == 34) _ _ (omega arith) (either_case n (x == 92) _ _ later (either_case n (nat_lt x 32) _ _ tt more))
content-shorter after_backslash [] = tt
content-shorter after_backslash (x ∷ xs) =
    let n = length (x ∷ xs) in
    let later = at_most_more n _ _ (content-shorter after_u xs) (omega arith) in
    either_case n (x == 117) _ _ later (found_then n _ (short_escape x) (λ c. at_most_longer n _ (c ∷ []) _ (content-shorter plain xs) (omega arith)))
content-shorter after_u [] = tt
content-shorter after_u (a ∷ []) = tt
content-shorter after_u (a ∷ b ∷ []) = tt
content-shorter after_u (a ∷ b ∷ c ∷ []) = tt
content-shorter after_u (a ∷ b ∷ c ∷ d ∷ xs) =
    let n = length (a ∷ b ∷ c ∷ d ∷ xs) in
    found_then n _ (code_unit a b c d) (λ u. either_case n (is_high_surrogate u) _ _
    (at_most_more n _ _ (content-shorter (after_high u) xs) (omega arith))
    (either_case n (is_low_surrogate u) _ _ tt (at_most_longer n _ (encode_utf8 u) _ (content-shorter plain xs) (omega (arith, length-encode u)))))
content-shorter (after_high h) [] = tt
content-shorter (after_high h) (s ∷ []) = tt
content-shorter (after_high h) (s ∷ u ∷ []) = tt
content-shorter (after_high h) (s ∷ u ∷ a ∷ []) = tt
content-shorter (after_high h) (s ∷ u ∷ a ∷ b ∷ []) = tt
content-shorter (after_high h) (s ∷ u ∷ a ∷ b ∷ c ∷ []) = tt
content-shorter (after_high h) (s ∷ u ∷ a ∷ b ∷ c ∷ d ∷ xs) =
    let n = length (s ∷ u ∷ a ∷ b ∷ c ∷ d ∷ xs) in
    either_case n ((s == 92) && (u == 117)) _ _ (found_then n _ (code_unit a b c d) (λ l. either_case n (is_low_surrogate l) _ _
    (at_most_longer n _ (encode_utf8 (surrogate_pair h l)) _ (content-shorter plain xs) (omega (arith, length-encode (surrogate_pair h l)))) tt)) tt

-- ---- tokens

module _ (n : ℕ) where
  abbrev FitsText : Token → Type 0
  FitsText (Token.string text) = length text ≤ n
  FitsText _ = Unit {0}

  -- a string of at most n bytes, or no string
  record IsFit (t : Token) : Type 0 where
    text : FitsText t

  abbrev AreFit : List Token → Type 0
  AreFit [] = Unit {0}
  AreFit (t ∷ ts) = IsFit t × AreFit ts

  abbrev FitsToken : Lexeme → Type 0
  FitsToken (token t) = IsFit t
  FitsToken _ = Unit {0}

  record IsFitLexeme (l : Lexeme) : Type 0 where
    inner : FitsToken l

  abbrev AreFitLexemes : List Lexeme → Type 0
  AreFitLexemes [] = Unit {0}
  AreFitLexemes (l ∷ ls) = IsFitLexeme l × AreFitLexemes ls

  fit_choice : (test : Bool) (s t : Token) → IsFit s → IsFit t → IsFit (cond test s t)
  fit_choice true s t first second = first
  fit_choice false s t first second = second

  fit_lexeme_choice : (test : Bool) (s t : Lexeme) → IsFitLexeme s → IsFitLexeme t → IsFitLexeme (cond test s t)
  fit_lexeme_choice true s t first second = first
  fit_lexeme_choice false s t first second = second

  fit_string : (m : ℕ) (found : Option (List ℕ)) → m ≤ n → AtMost m found → IsFit (string_token found)
  fit_string m None le within = record { text = tt }
  fit_string m (Some text) le within = record { text = omega arith }

  fit_number : (t : List ℕ) (rest : Option (List ℕ)) → IsFit (number_before t rest)
  fit_number t None = record { text = tt }
  fit_number t (Some rest) = fit_choice (ends_word rest) _ _ (record { text = tt }) (record { text = tt })

  fit_bad : IsFit Token.bad
  fit_bad = record { text = tt }

  fit_literal : (name : List ℕ) (t : List ℕ) (s : Token) → IsFit s → IsFit (literal name s t)
  fit_literal name t s fits = fit_choice (starts_with nat_eq t name && ends_word (drop (length name) t)) s Token.bad fits fit_bad

  fit_word : (t : List ℕ) → IsFit (word t)
  unfolding word
  fit_word t =
      let numbers = number_before t (after_number t) in
      let nulls = cond (head t == ascii.lower_n) (literal ascii.null_text Token.null t) numbers in
      let falses = cond (head t == ascii.lower_f) (literal ascii.false_text (Token.boolean false) t) nulls in
      fit_choice (head t == ascii.lower_t) (literal ascii.true_text (Token.boolean true) t) falses (fit_literal ascii.true_text t (Token.boolean true) (record { text = tt }))
      (fit_choice (head t == ascii.lower_f) (literal ascii.false_text (Token.boolean false) t) nulls (fit_literal ascii.false_text t (Token.boolean false) (record { text = tt }))
      (fit_choice (head t == ascii.lower_n) (literal ascii.null_text Token.null t) numbers (fit_literal ascii.null_text t Token.null (record { text = tt })) (fit_number t (after_number t))))

  plain_lexeme : {t : Token} → IsFit t → IsFitLexeme (token t)
  plain_lexeme fits = record { inner = fits }

  fit_operator : (x : ℕ) → IsFitLexeme (operator_lexeme x)
  fit_operator x =
      let marks = cond (x == ascii.comma) comma colon in
      let end_arrays = cond (x == ascii.close_bracket) (token Token.end_array) marks in
      let begin_arrays = cond (x == ascii.open_bracket) (token Token.begin_array) end_arrays in
      let end_objects = cond (x == ascii.close_brace) (token Token.end_object) begin_arrays in
      fit_lexeme_choice (x == ascii.open_brace) (token Token.begin_object) end_objects (plain_lexeme (record { text = tt }))
      (fit_lexeme_choice (x == ascii.close_brace) (token Token.end_object) begin_arrays (plain_lexeme (record { text = tt }))
      (fit_lexeme_choice (x == ascii.open_bracket) (token Token.begin_array) end_arrays (plain_lexeme (record { text = tt }))
      (fit_lexeme_choice (x == ascii.close_bracket) (token Token.end_array) marks (plain_lexeme (record { text = tt }))
      (fit_lexeme_choice (x == ascii.comma) comma colon (record { inner = tt }) (record { inner = tt })))))

  fit_byte : (m : Mode) (c : Class) (x : ℕ) (xs : List ℕ) (k : Mode → List Lexeme) → length xs ≤ n → ((next : Mode) → AreFitLexemes (k next)) → AreFitLexemes (lex_byte m c x xs k)
  fit_byte between quote x xs k le later = (plain_lexeme (fit_string (length xs) (content plain xs) le (content-shorter plain xs)), later in_string)
  fit_byte between backslash x xs k le later = (plain_lexeme (record { text = tt }), later in_word)
  fit_byte between operator x xs k le later = (fit_operator x, later between)
  fit_byte between space x xs k le later = later between
  fit_byte between other x xs k le later = (plain_lexeme (fit_word (x ∷ xs)), later in_word)
  fit_byte in_word quote x xs k le later = later in_word
  fit_byte in_word backslash x xs k le later = later in_word
  fit_byte in_word operator x xs k le later = (fit_operator x, later between)
  fit_byte in_word space x xs k le later = later between
  fit_byte in_word other x xs k le later = later in_word
  fit_byte in_string quote x xs k le later = later between
  fit_byte in_string backslash x xs k le later = later in_escape
  fit_byte in_string operator x xs k le later = later in_string
  fit_byte in_string space x xs k le later = later in_string
  fit_byte in_string other x xs k le later = later in_string
  fit_byte in_escape c x xs k le later = later in_string

  fit_lexemes : (m : Mode) (xs : List ℕ) → length xs ≤ n → AreFitLexemes (lex m xs)
  unfolding lex
  fit_lexemes m [] le = tt
  fit_lexemes m (x ∷ xs) le =
      let less : length xs ≤ n = omega arith in
      fit_byte m (class x) x xs (λ next. lex next xs) less (λ next. fit_lexemes next xs less)

  fit_if_allowed : (test : Bool) (t : Token) (k : Place → List Token) (next : Place) → IsFit t → ((p : Place) → AreFit (k p)) → AreFit (if_allowed test t k next)
  fit_if_allowed true t k next fits later = (fits, later next)
  fit_if_allowed false t k next fits later = (record { text = tt }, tt)

  fit_place : (p : Place) (t : Token) (before_colon : Bool) (k : Place → List Token) → IsFit t → ((next : Place) → AreFit (k next)) → AreFit (place_token p t before_colon k)
  fit_place p Token.begin_object before_colon k fits later = fit_if_allowed _ _ k _ (record { text = tt }) later
  fit_place p Token.end_object before_colon k fits later = fit_if_allowed _ _ k _ (record { text = tt }) later
  fit_place p Token.begin_array before_colon k fits later = fit_if_allowed _ _ k _ (record { text = tt }) later
  fit_place p Token.end_array before_colon k fits later = fit_if_allowed _ _ k _ (record { text = tt }) later
  fit_place p (Token.key s) before_colon k fits later = (record { text = tt }, tt)
  fit_place p (Token.string s) true k fits later = fit_if_allowed _ _ k _ (record { text = tt }) later
  fit_place p (Token.string s) false k fits later = fit_if_allowed _ _ k _ fits later
  fit_place p (Token.number s) before_colon k fits later = fit_if_allowed _ _ k _ (record { text = tt }) later
  fit_place p (Token.boolean b) before_colon k fits later = fit_if_allowed _ _ k _ (record { text = tt }) later
  fit_place p Token.null before_colon k fits later = fit_if_allowed _ _ k _ (record { text = tt }) later
  fit_place p Token.bad before_colon k fits later = (record { text = tt }, tt)

  fit_tokens : (p : Place) (ls : List Lexeme) → AreFitLexemes ls → AreFit (punctuate p ls)
  unfolding punctuate
  fit_tokens fresh [] fits = tt
  fit_tokens after_value [] fits = tt
  fit_tokens after_comma [] fits = (record { text = tt }, tt)
  fit_tokens after_key [] fits = (record { text = tt }, tt)
  fit_tokens fresh (token t ∷ ls) fits = fit_place fresh t (begins_colon ls) _ (fits.0).inner (λ next. fit_tokens next ls fits.1)
  fit_tokens after_value (token t ∷ ls) fits = fit_place after_value t (begins_colon ls) _ (fits.0).inner (λ next. fit_tokens next ls fits.1)
  fit_tokens after_comma (token t ∷ ls) fits = fit_place after_comma t (begins_colon ls) _ (fits.0).inner (λ next. fit_tokens next ls fits.1)
  fit_tokens after_key (token t ∷ ls) fits = fit_place after_key t (begins_colon ls) _ (fits.0).inner (λ next. fit_tokens next ls fits.1)
  fit_tokens fresh (comma ∷ ls) fits = (record { text = tt }, tt)
  fit_tokens after_value (comma ∷ ls) fits = fit_tokens after_comma ls fits.1
  fit_tokens after_comma (comma ∷ ls) fits = (record { text = tt }, tt)
  fit_tokens after_key (comma ∷ ls) fits = (record { text = tt }, tt)
  fit_tokens fresh (colon ∷ ls) fits = (record { text = tt }, tt)
  fit_tokens after_value (colon ∷ ls) fits = (record { text = tt }, tt)
  fit_tokens after_comma (colon ∷ ls) fits = (record { text = tt }, tt)
  fit_tokens after_key (colon ∷ ls) fits = fit_tokens fresh ls fits.1

  -- ---- what tokens read as

  -- the items that are strings are of at most n bytes; of what is nested in them nothing is said
  abbrev IsFitJson : json.Json → Type 0
  IsFitJson (json.string text) = length text ≤ n
  IsFitJson _ = Unit {0}

  abbrev AreFitItems : json.Items → Type 0
  AreFitItems json.no_items = Unit {0}
  AreFitItems (json.item j js) = IsFitJson j × AreFitItems js

  -- what is read is fit, and so are the tokens that are left
  abbrev Reads : {A : Type 0} → (A → Type 0) → Option (A × List Token) → Type 0
  Reads Fit None = Unit {0}
  Reads Fit (Some p) = Fit p.0 × AreFit p.1

  abbrev Keeps : {A : Type 0} → (A → Type 0) → json.Parse A → Type 0
  Keeps Fit parse = (ts : List Token) → AreFit ts → Reads Fit (parse ts)

  abbrev Anything : {A : Type 0} → A → Type 0
  Anything _ = Unit {0}

  mapped : {A B : Type 0} (F : A → Type 0) (G : B → Type 0) (h : A → B) → ((a : A) → F a → G (h a)) → (found : Option (A × List Token)) → Reads F found → Reads G (json.parse_map h found)
  mapped F G h fits None reads = tt
  mapped F G h fits (Some p) reads = (fits p.0 reads.0, reads.1)

  and_more : {B : Type 0} (F : B → Type 0) (h : json.Json → B → B) → ((j : json.Json) (b : B) → IsFitJson j → F b → F (h j b)) → (more : json.Parse B) → Keeps F more
      → (found : Option (json.Json × List Token)) → Reads IsFitJson found → Reads F (option_and_then (λ q. json.parse_map (h q.0) (more q.1)) found)
  and_more F h fits more keeps None reads = tt
  and_more F h fits more keeps (Some q) reads = mapped F F (h q.0) (λ b fit. fits q.0 b reads.0 fit) _ (keeps q.1 reads.1)

  module _ (parse : json.Parse json.Json) (keeps : Keeps IsFitJson parse) where
    item_turn : (more : json.Parse json.Items) → Keeps AreFitItems more → (ts : List Token) (end : Option (List Token)) → json.after_end_array ts ≡ end → AreFit ts
        → Reads AreFitItems (json.items_step parse more ts end)
    item_turn more again ts (Some rest) is fit = let whole : AreFit (Token.end_array ∷ rest) = subst AreFit (closed_array ts rest is) fit in (tt, whole.1)
    item_turn more again ts None is fit = and_more AreFitItems json.item (λ j js first later. (first, later)) more again (parse ts) (keeps ts fit)

    Keeps-items : (turns : ℕ) → Keeps AreFitItems (json.items parse turns)
    unfolding json.items
    Keeps-items zero ts fit = tt
    Keeps-items (suc turns) ts fit = item_turn (json.items parse turns) (Keeps-items turns) ts (json.after_end_array ts) refl fit

    member_turn : (more : json.Parse json.Members) → Keeps Anything more → (ts : List Token) (found : Option (Option (List ℕ) × List Token)) → json.read_key ts ≡ found → AreFit ts
        → Reads Anything (option_and_then (λ q. json.members_step parse more q.0 q.1) found)
    member_turn more again ts None is fit = tt
    member_turn more again ts (Some (None, rest)) is fit =
        let whole : AreFit (key_token None ∷ rest) = subst AreFit (read_key_is ts None rest is) fit in (tt, whole.1)
    member_turn more again ts (Some (Some name, rest)) is fit =
        let whole : AreFit (key_token (Some name) ∷ rest) = subst AreFit (read_key_is ts (Some name) rest is) fit in
        and_more Anything (json.member name) (λ j b first later. tt) more again (parse rest) (keeps rest whole.1)

    Keeps-members : (turns : ℕ) → Keeps Anything (json.members parse turns)
    unfolding json.members
    Keeps-members zero ts fit = tt
    Keeps-members (suc turns) ts fit = member_turn (json.members parse turns) (Keeps-members turns) ts (json.read_key ts) refl fit

  -- a value, and of an array its items
  abbrev IsFitValue : json.Json → Type 0
  IsFitValue (json.array js) = AreFitItems js
  IsFitValue (json.string text) = length text ≤ n
  IsFitValue _ = Unit {0}

  as_item : (j : json.Json) → IsFitValue j → IsFitJson j
  as_item json.null fit = tt
  as_item (json.boolean b) fit = tt
  as_item (json.number s) fit = tt
  as_item (json.string s) fit = fit
  as_item (json.array js) fit = tt
  as_item (json.object ms) fit = tt

  one_level : (a : json.Parse json.Items) (o : json.Parse json.Members) → Keeps AreFitItems a → Keeps Anything o → Keeps IsFitValue (json.value_with a o)
  one_level a o p q [] fit = tt
  one_level a o p q (Token.begin_object ∷ ts) fit = mapped Anything IsFitValue json.object (λ ms _. tt) (o ts) (q ts fit.1)
  one_level a o p q (Token.end_object ∷ ts) fit = tt
  one_level a o p q (Token.begin_array ∷ ts) fit = mapped AreFitItems IsFitValue json.array (λ js fits. fits) (a ts) (p ts fit.1)
  one_level a o p q (Token.end_array ∷ ts) fit = tt
  one_level a o p q (Token.key s ∷ ts) fit = tt
  one_level a o p q (Token.string s ∷ ts) fit = ((fit.0).text, fit.1)
  one_level a o p q (Token.number s ∷ ts) fit = (tt, fit.1)
  one_level a o p q (Token.boolean b ∷ ts) fit = (tt, fit.1)
  one_level a o p q (Token.null ∷ ts) fit = (tt, fit.1)
  one_level a o p q (Token.bad ∷ ts) fit = tt

  item_of_value : (found : Option (json.Json × List Token)) → Reads IsFitValue found → Reads IsFitJson found
  item_of_value None reads = tt
  item_of_value (Some p) reads = (as_item p.0 reads.0, reads.1)

  Keeps-value : (depth : ℕ) → Keeps IsFitValue (json.value depth)
  unfolding json.value
  Keeps-value zero = one_level (λ ts. None) (λ ts. None) (λ ts fit. tt) (λ ts fit. tt)
  Keeps-value (suc depth) =
      let nested : Keeps IsFitJson (json.value depth) = λ ts fit. item_of_value (json.value depth ts) (Keeps-value depth ts fit) in
      one_level _ _ (λ ts fit. Keeps-items (json.value depth) nested (length ts) ts fit) (λ ts fit. Keeps-members (json.value depth) nested (length ts) ts fit)

  -- ---- what that is as serde_json's data

  -- the items that are strings are of at most n bytes
  abbrev pub IsFitData : Data → Type 0
  IsFitData (string bytes) = length bytes ≤ n
  IsFitData _ = Unit {0}

  abbrev pub AreFitDataItems : Items → Type 0
  AreFitDataItems no_items = Unit {0}
  AreFitDataItems (item entry items) = IsFitData entry × AreFitDataItems items

  abbrev IsFitFound : Option Data → Type 0
  IsFitFound None = Unit {0}
  IsFitFound (Some entry) = IsFitData entry

  abbrev AreFitFound : Option Items → Type 0
  AreFitFound None = Unit {0}
  AreFitFound (Some items) = AreFitDataItems items

  -- an array's items
  abbrev IsFitWhole : Option Data → Type 0
  IsFitWhole (Some (array items)) = AreFitDataItems items
  IsFitWhole _ = Unit {0}

  found_mapped : {A : Type 0} (f : A → Data) → ((a : A) → IsFitData (f a)) → (found : Option A) → IsFitFound (option_map f found)
  found_mapped f each None = tt
  found_mapped f each (Some a) = each a

  fit_data : (j : json.Json) → IsFitJson j → IsFitFound (of_json j)
  fit_data json.null fit = tt
  fit_data (json.boolean b) fit = tt
  fit_data (json.number s) fit = found_mapped number (λ _. tt) (number_of s)
  fit_data (json.string s) fit = fit
  fit_data (json.array js) fit = found_mapped array (λ _. tt) (of_items js)
  fit_data (json.object ms) fit = found_mapped object (λ _. tt) (of_members ms no_members)

  one_more : (entry : Data) (found : Option Items) → IsFitData entry → AreFitFound found → AreFitFound (option_map (item entry) found)
  one_more entry None first later = tt
  one_more entry (Some items) first later = (first, later)

  item_found : (found : Option Data) (items : Option Items) → IsFitFound found → AreFitFound items → AreFitFound (option_and_then (λ entry. option_map (item entry) items) found)
  item_found None items first later = tt
  item_found (Some entry) items first later = one_more entry items first later

  fit_items : (js : json.Items) → AreFitItems js → AreFitFound (of_items js)
  fit_items json.no_items fit = tt
  fit_items (json.item j js) fit = item_found (of_json j) (of_items js) (fit_data j fit.0) (fit_items js fit.1)

  whole_array : (found : Option Items) → AreFitFound found → IsFitWhole (option_map array found)
  whole_array None fit = tt
  whole_array (Some items) fit = fit

  whole_mapped : {A : Type 0} (f : A → Data) → ((a : A) → IsFitWhole (Some (f a))) → (found : Option A) → IsFitWhole (option_map f found)
  whole_mapped f each None = tt
  whole_mapped f each (Some a) = each a

  fit_whole : (j : json.Json) → IsFitValue j → IsFitWhole (of_json j)
  fit_whole json.null fit = tt
  fit_whole (json.boolean b) fit = tt
  fit_whole (json.number s) fit = whole_mapped number (λ _. tt) (number_of s)
  fit_whole (json.string s) fit = tt
  fit_whole (json.array js) fit = whole_array (of_items js) (fit_items js fit)
  fit_whole (json.object ms) fit = whole_mapped object (λ _. tt) (of_members ms no_members)

  fit_last : (j : json.Json) (rest : List Token) → IsFitValue j → IsFitWhole (option_and_then of_json (json.if_last j rest))
  fit_last j [] fit = fit_whole j fit
  fit_last j (t ∷ ts) fit = tt

  fit_read : (found : Option (json.Json × List Token)) → Reads IsFitValue found → IsFitWhole (option_and_then of_json (option_and_then (λ p. json.if_last p.0 p.1) found))
  fit_read None reads = tt
  fit_read (Some p) reads = fit_last p.0 p.1 reads.0

  fit_text : (text : List ℕ) → length text ≤ n → IsFitWhole (read text)
  fit_text text le =
      fit_read (json.value max_depth (tokens text)) (Keeps-value max_depth (tokens text) (fit_tokens fresh (lex between text) (fit_lexemes between text le)))

  fit_if : (test : Bool) (found : Option Data) → IsFitWhole found → IsFitWhole (cond test found None)
  fit_if true found fit = fit
  fit_if false found fit = tt

  items_of_found : (found : Option Data) (items : Items) → IsFitWhole found → option_and_then as_array found ≡ Some items → AreFitDataItems items
  items_of_found None items fit is = absurd (cc)
  items_of_found (Some null) items fit is = absurd (cc)
  items_of_found (Some (boolean b)) items fit is = absurd (cc)
  items_of_found (Some (number x)) items fit is = absurd (cc)
  items_of_found (Some (string s)) items fit is = absurd (cc)
  items_of_found (Some (array xs)) items fit is = let same : xs ≡ items = cc in subst AreFitDataItems same fit
  items_of_found (Some (object ms)) items fit is = absurd (cc)

  -- the texts among the items of an array are no longer than the bytes that spell it
  pub fit_array : (bytes : List ℕ) (items : Items) → length bytes ≤ n → array_of bytes ≡ Some items → AreFitDataItems items
  unfolding json_of
  fit_array bytes items le is = items_of_found (json_of bytes) items (fit_if (is_utf8 bytes) (read bytes) (fit_text bytes le)) is
