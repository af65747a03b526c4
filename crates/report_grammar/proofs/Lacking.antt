-- Texts without a byte.
use Rattle.std.proofs.Common.{◌≡◌, ℕ, zero, suc, ◌+◌, ◌/◌, ◌%◌, ◌<◌, ◌≤◌, ◌^◌, ◌==◌, ◌&&◌, ◌||◌, nat_lt, Bool, true, false, not, cond, ℤ, pos, negsuc, List, [], ◌∷◌, ◌++◌, length, take, drop, get_or, Option, Some, refl, ap, ap₂, sym, ◌∙◌, arith, append-nil, IsAscii}
use Rattle.std.specs.Fmt.{decimal, signed_decimal}
use Rattle.std.specs.Prelude.{FitsSigned}
use Rattle.std.specs.Int.{w128}
use Rattle.std.specs.List.{AllByRecursion, list_all, prefix_len}
use Rattle.std.proofs.Math.Seq.{take-append_seam, drop-append_seam}
use Rattle.std.proofs.lemmas.Bool.{and_from, and_parts, ne_eqb}
use Rattle.std.proofs.lemmas.Bool.Decides.{nat_tests}
use Rattle.std.proofs.lemmas.Fmt.{decimal_is_IsNumeral_wide}
use Rattle.std.proofs.lemmas.List.{take_all, drop_all}
use Rattle.std.proofs.lemmas.Str.Parse.{digit_at}
use Rattle.storm_values.specs.declared.value.Root.{Root}
use Rattle.record_spans.specs.declared.span.Span.{Span}
use Rattle.topology_plan.specs.Texts.{IsName, is_name, is_name_byte, is_between, is_letter, begins_with_letter}
use Rattle.report_grammar.specs.Report.{EdgeText, edge_text, edges_text, hex_digit, hex_text, path_text, root_text, span_text, spans_text}
use Rattle.report_grammar.specs.WellFormed.{IsEdge, IsPath, IsRoot, IsSpan}
use Rattle.report_grammar.specs.steps.Lists.{behind, from_byte, front_of, pieces, pieces_left, rest_of}
use Rattle.report_grammar.proofs.NumbersRead.{front_len}
use Rattle.report_grammar.proofs.Pieces.{one_piece}

abbrev pub Lacks : ℕ → List ℕ → Type 0
Lacks byte text = list_all (λ b. not (b == byte)) text ≡ true

pub lacks-append : (byte : ℕ) (xs ys : List ℕ) → Lacks byte xs → Lacks byte ys → Lacks byte (xs ++ ys)
lacks-append byte [] ys first second = second
lacks-append byte (x ∷ xs) ys first second =
    let p = and_parts (not (x == byte)) (list_all (λ b. not (b == byte)) xs) first in
    and_from _ _ p.0 (lacks-append byte xs ys p.1 second)

-- ---- where a text is cut

seam_len : (byte : ℕ) (xs rest : List ℕ) → (byte == byte) ≡ true → Lacks byte xs → prefix_len (λ b. not (b == byte)) (xs ++ byte ∷ rest) ≡ length xs
seam_len byte xs rest same lacks =
    let ends : prefix_len (λ b. not (b == byte)) (byte ∷ rest) ≡ 0 = ap (λ t. cond (not t) (1 + prefix_len (λ b. not (b == byte)) rest) 0) same in
    front_len (λ b. not (b == byte)) xs (byte ∷ rest) lacks ends

pub front_there : (byte : ℕ) (xs rest : List ℕ) → (byte == byte) ≡ true → Lacks byte xs → front_of byte (xs ++ byte ∷ rest) ≡ xs
front_there byte xs rest same lacks =
    ap (λ k. take k (xs ++ byte ∷ rest)) (seam_len byte xs rest same lacks) ∙ take-append_seam xs (byte ∷ rest)

pub from_there : (byte : ℕ) (xs rest : List ℕ) → (byte == byte) ≡ true → Lacks byte xs → from_byte byte (xs ++ byte ∷ rest) ≡ byte ∷ rest
from_there byte xs rest same lacks =
    ap (λ k. drop k (xs ++ byte ∷ rest)) (seam_len byte xs rest same lacks) ∙ drop-append_seam xs (byte ∷ rest)

pub rest_there : (byte : ℕ) (xs rest : List ℕ) → (byte == byte) ≡ true → Lacks byte xs → rest_of byte (xs ++ byte ∷ rest) ≡ Some rest
rest_there byte xs rest same lacks =
    ap behind (from_there byte xs rest same lacks)

pub pieces_more : (byte : ℕ) (xs rest : List ℕ) → (byte == byte) ≡ true → Lacks byte xs → pieces byte (xs ++ byte ∷ rest) ≡ xs ∷ pieces byte rest
pieces_more byte xs rest same lacks =
    one_piece byte (xs ++ byte ∷ rest)
    ∙ ap₂ (λ first others. first ∷ pieces_left byte others) (front_there byte xs rest same lacks) (rest_there byte xs rest same lacks)

pub pieces_one : (byte : ℕ) (xs : List ℕ) → Lacks byte xs → pieces byte xs ≡ xs ∷ []
pieces_one byte xs lacks =
    let len : prefix_len (λ b. not (b == byte)) xs ≡ length xs = ap (prefix_len (λ b. not (b == byte))) (sym (append-nil xs)) ∙ front_len (λ b. not (b == byte)) xs [] lacks refl in
    one_piece byte xs
    ∙ ap (λ k. take k xs ∷ pieces_left byte (behind (drop k xs))) len
    ∙ ap₂ (λ first others. first ∷ pieces_left byte (behind others)) (take_all (length xs) xs (omega arith)) (drop_all (length xs) xs (omega arith))

-- ---- bytes from `-` on

abbrev pub High : List ℕ → Type 0
High text = AllByRecursion (λ b. 45 ≤ b) text

pub high-append : (xs ys : List ℕ) → High xs → High ys → High (xs ++ ys)
high-append [] ys first second = second
high-append (x ∷ xs) ys first second = (first.0, high-append xs ys first.1 second)

pub high_lacks : (byte : ℕ) → byte < 45 → (xs : List ℕ) → High xs → Lacks byte xs
high_lacks byte low [] high = refl
high_lacks byte low (x ∷ xs) high =
    and_from _ _ (ap not (ne_eqb x byte (λ same. omega (arith, high.0)))) (high_lacks byte low xs high.1)

-- ---- numbers

by_places : (P : ℕ → Type 0) (xs : List ℕ) → ((k : ℕ) → k < length xs → P (get_or xs k 0)) → AllByRecursion P xs
by_places P [] at = tt
by_places P (x ∷ xs) at = (at 0 (omega arith), by_places P xs (λ k below. at (suc k) (omega arith)))

decimal_range : (n : ℕ) → n < 10 ^ 64 → (k : ℕ) → k < length (decimal n) → (48 ≤ get_or (decimal n) k 0) × (get_or (decimal n) k 0 ≤ 57)
decimal_range n small k below =
    let at = digit_at (decimal n) k (decimal_is_IsNumeral_wide n small).0.1 below in
    (omega (arith, at), omega (arith, at))

pub decimal_high : (n : ℕ) → n < 10 ^ 64 → High (decimal n)
decimal_high n small = by_places (λ b. 45 ≤ b) (decimal n) (λ k below. omega (arith, (decimal_range n small k below).0))

lacks_places : (byte : ℕ) (xs : List ℕ) → ((k : ℕ) → k < length xs → get_or xs k 0 ≡ byte → ⊥) → Lacks byte xs
lacks_places byte [] at = refl
lacks_places byte (x ∷ xs) at =
    and_from _ _ (ap not (ne_eqb x byte (at 0 (omega arith)))) (lacks_places byte xs (λ k below. at (suc k) (omega arith)))

pub decimal_lacks : (byte n : ℕ) → n < 10 ^ 64 → (48 ≤ byte → byte ≤ 57 → ⊥) → Lacks byte (decimal n)
decimal_lacks byte n small other =
    lacks_places byte (decimal n) (λ k below same.
    let at = decimal_range n small k below in
    other (omega (arith, at.0)) (omega (arith, at.1)))

pub signed_high : (z : ℤ) → FitsSigned w128 z → High (signed_decimal z)
signed_high (pos n) fits = decimal_high n (omega arith)
signed_high (negsuc n) fits = (omega arith, decimal_high (suc n) (omega arith))

-- ---- paths, ids and edges

abbrev pub AreSmall : List ℕ → Type 0
AreSmall path = AllByRecursion (λ n. n < 2 ^ 32) path

pub path_high : (path : List ℕ) → AreSmall path → High (path_text path)
path_high [] small = tt
path_high (n ∷ []) small = decimal_high n (omega (arith, small.0))
path_high (n ∷ m ∷ path) small =
    high-append (decimal n) _ (decimal_high n (omega (arith, small.0))) (omega arith, path_high (m ∷ path) small.1)

pub path_lacks_colon : (path : List ℕ) → AreSmall path → Lacks 58 (path_text path)
path_lacks_colon [] small = refl
path_lacks_colon (n ∷ []) small = decimal_lacks 58 n (omega (arith, small.0)) (λ least most. omega arith)
path_lacks_colon (n ∷ m ∷ path) small =
    lacks-append 58 (decimal n) _ (decimal_lacks 58 n (omega (arith, small.0)) (λ least most. omega arith)) (path_lacks_colon (m ∷ path) small.1)

hex_digit_high : (d : ℕ) → 45 ≤ hex_digit d
hex_digit_high d = cases (nat_lt d 10)
  where
    cases : (low : Bool) → 45 ≤ cond low (48 + d) (87 + d)
    cases true = omega arith
    cases false = omega arith

pub hex_high : (digits n : ℕ) → High (hex_text digits n)
unfolding hex_text
hex_high zero n = tt
hex_high (suc digits) n = high-append (hex_text digits (n / 16)) _ (hex_high digits (n / 16)) (hex_digit_high (n % 16), tt)

pub edge_high : (edge : EdgeText) → IsEdge edge → High (edge_text edge)
edge_high edge is =
    high-append (path_text edge.path) _ (path_high edge.path is.path.each) (omega arith, hex_high 16 edge.id)

-- ---- spans

pub span_high : (span : Span) → IsSpan span → High (span_text span)
span_high span is =
    high-append (decimal span.first) _ (decimal_high span.first (omega (arith, is.first))) (omega arith, decimal_high span.last (omega (arith, is.last)))

pub spans_lack : (byte : ℕ) → byte < 44 → (spans : List Span) → AllByRecursion IsSpan spans → Lacks byte (spans_text spans)
spans_lack byte low [] are = refl
spans_lack byte low (span ∷ []) are = high_lacks byte (omega arith) (span_text span) (span_high span are.0)
spans_lack byte low (span ∷ next ∷ spans) are =
    lacks-append byte (span_text span) (44 ∷ spans_text (next ∷ spans)) (high_lacks byte (omega arith) (span_text span) (span_high span are.0))
    (and_from _ _ (ap not (ne_eqb 44 byte (λ same. omega arith))) (spans_lack byte low (next ∷ spans) are.1))

-- ---- roots

pub root_high : (root : Root) → IsRoot root → High (root_text root)
root_high root is =
    high-append (decimal root.txid) _ (decimal_high root.txid (omega (arith, is.txid))) (omega arith, decimal_high root.attempt (omega (arith, is.attempt)))

-- ---- names

name_byte_range : (b : ℕ) → is_name_byte b ≡ true → (45 ≤ b) × (b < 128)
name_byte_range b is = (grind (arith, nat_tests), grind (arith, nat_tests))

name_bytes_high : (xs : List ℕ) → list_all is_name_byte xs ≡ true → High xs
name_bytes_high [] all = tt
name_bytes_high (x ∷ xs) all =
    let p = and_parts (is_name_byte x) (list_all is_name_byte xs) all in
    ((name_byte_range x p.0).0, name_bytes_high xs p.1)

name_bytes_ascii : (xs : List ℕ) → list_all is_name_byte xs ≡ true → IsAscii xs
name_bytes_ascii [] all i = omega arith
name_bytes_ascii (x ∷ xs) all zero =
    (name_byte_range x (and_parts (is_name_byte x) (list_all is_name_byte xs) all).0).1
name_bytes_ascii (x ∷ xs) all (suc i) =
    name_bytes_ascii xs (and_parts (is_name_byte x) (list_all is_name_byte xs) all).1 i

bytes_of_name : (name : List ℕ) → IsName name → list_all is_name_byte name ≡ true
unfolding IsName
bytes_of_name name is = (and_parts (is_between (length name) 1 32 && begins_with_letter name) (list_all is_name_byte name) is).1

pub name_high : (name : List ℕ) → IsName name → High name
name_high name is = name_bytes_high name (bytes_of_name name is)

pub name_ascii : (name : List ℕ) → IsName name → IsAscii name
name_ascii name is = name_bytes_ascii name (bytes_of_name name is)
