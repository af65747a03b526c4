-- The rows that an operation makes of a row within limits are within limits, and as wide as the plan says.
use Rattle.std.proofs.Common.{◌≡◌, ◌∙◌, ℕ, suc, ◌+◌, ◌<◌, ◌≤◌, ◌==◌, nat_lt, List, [], ◌∷◌, length, map, All, Option, Some, None, Bool, true, false, cond, pos, ap, sym, refl, subst, arith}
use Rattle.std.specs.List.{filter_map, slice_split, onto_first}
use Rattle.std.specs.Option.{option_map_or}
use Rattle.std.proofs.lemmas.List.{length-set, length_push}
use Rattle.std.proofs.lemmas.List.Elements.{All-nil, All-cons, All-head, All-tail, All-weaker, All-map, All-filter, All-set, All-push}
use Rattle.std.proofs.lemmas.Option.{slice_get-get_or}
use Rattle.storm_values.specs.declared.value.Value.{Value}
use Rattle.storm_values.specs.declared.value.Value.TheVariants.{Int, Text}
use Rattle.storm_values.specs.Rows.{IsShort, IsRow}
use Rattle.topology_plan.specs.declared.parts.Op.{Op}
use Rattle.topology_plan.specs.declared.function.Function.{Function}
use Rattle.topology_plan.specs.declared.function.Function.TheVariants.{Split, Project, Filter, Set, Len, Route, Flaky, Mute}
use Rattle.topology_plan.specs.declared.function.Function.TheVariants as function
use Rattle.topology_plan.specs.Functions.{shape, first_field, AreRead, width_left, IsConstant, IsFunctionInRange}
use Rattle.topology_plan.specs.Wired.{IsWithin, width_after}
use Rattle.bolt_ops.specs.Operations.{keeps as keeps_row, value_at, bytes_of, text_at, pieces, words, made, out}
use Rattle.bolt_ops.specs.RowOp.{Custom, IsCustom}

-- ---- the words of a text

abbrev Fits : List ℕ → Type 0
Fits text = length text ≤ 4096

record AreFit (n : ℕ) (parts : List (List ℕ)) : Type 0 where
  each : All (λ (part : List ℕ). length part ≤ n) parts

first_longer : (n : ℕ) (x : ℕ) (parts : List (List ℕ)) → AreFit n parts → AreFit (suc n) (onto_first x parts)
first_longer n x [] fit = let P : List ℕ → Type 0 = λ part. length part ≤ suc n in record { each = All-cons P (x ∷ []) [] (omega arith) (All-nil P) }
first_longer n x (part ∷ parts) fit =
    let P : List ℕ → Type 0 = λ part. length part ≤ n in
    let Q : List ℕ → Type 0 = λ part. length part ≤ suc n in
    let first = All-head P part parts fit.each in
    record { each = All-cons Q (x ∷ part) parts (omega arith) (All-weaker P Q (λ p le. omega arith) parts (All-tail P part parts fit.each)) }

one_more_part : (n : ℕ) (parts : List (List ℕ)) → AreFit n parts → AreFit (suc n) ([] ∷ parts)
one_more_part n parts fit =
    let P : List ℕ → Type 0 = λ part. length part ≤ n in
    let Q : List ℕ → Type 0 = λ part. length part ≤ suc n in
    record { each = All-cons Q [] parts (omega arith) (All-weaker P Q (λ p le. omega arith) parts fit.each) }

cut_or_not : (test : Bool) (n : ℕ) (these those : List (List ℕ)) → AreFit n these → AreFit n those → AreFit n (cond test these those)
cut_or_not true n these those first second = first
cut_or_not false n these those first second = second

-- a part of a text is no longer than the text
parts_fit : (test : ℕ → Bool) (text : List ℕ) → AreFit (length text) (slice_split test text)
parts_fit test [] = let P : List ℕ → Type 0 = λ part. length part ≤ 0 in record { each = All-cons P [] [] (omega arith) (All-nil P) }
parts_fit test (x ∷ text) =
    cut_or_not (test x) (length (x ∷ text)) ([] ∷ slice_split test text) (onto_first x (slice_split test text))
    (one_more_part (length text) _ (parts_fit test text)) (first_longer (length text) x _ (parts_fit test text))

words_fit : (text : List ℕ) → length text ≤ 4096 → All Fits (words text)
words_fit text le =
    let P : List ℕ → Type 0 = λ part. length part ≤ length text in
    All-filter (λ piece. nat_lt 0 (length piece)) Fits (pieces 32 text) (All-weaker P Fits (λ p less. omega arith) (pieces 32 text) ((parts_fit (λ b. b == 32) text).each))

found_fits : (found : Option Value) → ((value : Value) → found ≡ Some value → IsShort value) → length (option_map_or bytes_of found []) ≤ 4096
found_fits None short = omega arith
found_fits (Some (Int n)) short = omega arith
found_fits (Some (Text bytes)) short = short (Text bytes) refl

text_fits : (row : List Value) (field : ℕ) → field < length row → All IsShort row → length (text_at row field) ≤ 4096
text_fits row field inside short =
    found_fits (value_at row field) (λ value is. subst IsShort (let there : Some _ ≡ Some value = sym (slice_get-get_or row field (Int (pos 0)) inside) ∙ is in cc) (short field (Int (pos 0)) inside))

-- ---- rows

one_row : (n : ℕ) (row : List Value) → IsRow n row → All (IsRow n) (row ∷ [])
one_row n row fits = All-cons (IsRow n) row [] fits (All-nil (IsRow n))

kept_or_not : (n : ℕ) (b : Bool) (row : List Value) → IsRow n row → All (IsRow n) (cond b (row ∷ []) [])
kept_or_not n true row fits = one_row n row fits
kept_or_not n false row fits = All-nil (IsRow n)

one_value : (text : List ℕ) → Fits text → IsRow 1 (Text text ∷ [])
one_value text fits = record { width = refl; short = All-cons IsShort (Text text) [] fits (All-nil IsShort) }

-- a row of one value for each word
one_each : (texts : List (List ℕ)) → All Fits texts → All (IsRow 1) (map (λ text. Text text ∷ []) texts)
one_each texts fit = All-map (IsRow 1) (λ text. Text text ∷ []) texts (λ k d below. one_value _ (fit k d below))

-- a projection on fields of the row has a value for each
length-project : (row : List Value) (fields : List ℕ) → All (λ field. field < length row) fields → length (filter_map (value_at row) fields) ≡ length fields
length-project row [] inside = refl
length-project row (field ∷ fields) inside =
    rw (slice_get-get_or row field (Int (pos 0)) (All-head (λ f. f < length row) field fields inside))
    (ap suc (length-project row fields (All-tail (λ f. f < length row) field fields inside)))

short-project : (row : List Value) (fields : List ℕ) → All IsShort row → All (λ field. field < length row) fields → All IsShort (filter_map (value_at row) fields)
short-project row [] short inside = All-nil IsShort
short-project row (field ∷ fields) short inside =
    let there = All-head (λ f. f < length row) field fields inside in
    rw (slice_get-get_or row field (Int (pos 0)) there)
    (All-cons IsShort _ _ (short field (Int (pos 0)) there) (short-project row fields short (All-tail (λ f. f < length row) field fields inside)))

short-constant : (value : Value) → IsConstant value → IsShort value
short-constant (Int n) constant = tt
short-constant (Text bytes) constant = omega arith

-- a field that is read is among the values
first_there : (reads : List ℕ) (n : ℕ) (row : List Value) → IsRow n row → 1 ≤ length reads → All (λ field. field < n) reads → first_field reads < length row
first_there [] n row is some there = absurd (omega arith)
first_there (field ∷ reads) n row is some there = rw is.width (All-head (λ f. f < n) field reads there)

-- the rows that a function of some of n fields makes of a row of n values within limits
made-within : (custom : Custom) (function : Function) (reads : List ℕ) (n : ℕ) (row : List Value)
    → IsCustom custom → AreRead function reads → All (λ field. field < n) reads → IsFunctionInRange function → IsRow n row
    → All (IsRow (width_left (shape function).leaves (length reads) n)) (made custom function reads row)
made-within custom Split reads n row keeps read there range is =
    one_each (words (text_at row (first_field reads))) (words_fit (text_at row (first_field reads)) (text_fits row (first_field reads) (first_there reads n row is read.0 there) is.short))
made-within custom Project reads n row keeps read there range is =
    let inside = subst (λ m. All (λ field. field < m) reads) (sym is.width) there in
    one_row (length reads) _ (record { width = length-project row reads inside; short = short-project row reads is.short inside })
made-within custom (Filter test value) reads n row keeps read there range is = kept_or_not n (keeps_row (first_field reads) test value row) row is
made-within custom (Set value) reads n row keeps read there range is =
    one_row n _ (record { width = length-set row (first_field reads) value ∙ is.width; short = All-set IsShort row (first_field reads) value (short-constant value range) is.short })
made-within custom Len reads n row keeps read there range is =
    one_row (n + 1) _ (record { width = length_push row _ ∙ ap (λ m. m + 1) is.width; short = All-push IsShort row _ is.short tt })
made-within custom Route reads n row keeps read there range is = one_row n row is
made-within custom (Flaky below) reads n row keeps read there range is = one_row n row is
made-within custom (Mute below) reads n row keeps read there range is = one_row n row is
made-within custom function.Custom reads n row keeps read there range is =
    λ k d below. record { width = keeps.widths row is.short k d below ∙ is.width; short = keeps.short row is.short k d below }

-- the rows that an operation makes of a row of n values within limits
pub out-within : (custom : Custom) (operation : Op) (n : ℕ) (row : List Value)
    → IsCustom custom → IsWithin operation n → IsRow n row → All (IsRow (width_after operation n)) (out custom operation row)
out-within custom operation n row keeps within is = made-within custom operation.function operation.reads n row keeps within.0 within.1 within.3 is
