-- Paths, ids, edges, spans and roots are read where their texts stand.
use Rattle.std.proofs.Common.{◌≡◌, ℕ, zero, suc, ◌<◌, ◌^◌, ◌≤◌, Bool, true, cond, List, [], ◌∷◌, ◌++◌, length, map, Option, Some, None, option_map, refl, ap, sym, ◌∙◌, arith}
use Rattle.std.specs.Prelude.{option_and_then}
use Rattle.std.specs.Fmt.{decimal}
use Rattle.std.specs.Int.{from_be_bytes, to_be_bytes, w64}
use Rattle.std.specs.Result.{result_ok}
use Rattle.std.specs.List.{AllByRecursion}
use Rattle.std.proofs.lemmas.Nat.{from_be_bytes-to_be_bytes_8}
use Rattle.std.proofs.lemmas.Fmt.{digits_decimal}
use Rattle.hex.specs.Hex.{IsBytes, decode_sized, encode_lower}
use Rattle.hex.proofs.HexLemmas.{decode_sized-encode_lower}
use Rattle.storm_values.specs.declared.value.Root.{Root}
use Rattle.record_spans.specs.declared.span.Span.{Span}
use Rattle.report_grammar.specs.Report.{EdgeText, edge_text, edges_text, hex_text, path_text, root_text, span_text, spans_text}
use Rattle.report_grammar.specs.WellFormed.{AreSpans, IsEdge, IsPath, IsRoot, IsSpan}
use Rattle.report_grammar.specs.steps.Lists.{each, edge_of, edge_with, edges_of, front_of, id_of, number_of, path_of, pieces, rest_of, root_of, root_with, span_of, span_with, spans_of, wide_number_of}
use Rattle.report_grammar.specs.steps.Reading.{number_in}
use Rattle.report_grammar.proofs.Hex.{digits_of_bytes}
use Rattle.report_grammar.proofs.Lacking.{AreSmall, Lacks, decimal_lacks, edge_high, front_there, high_lacks, path_lacks_colon, pieces_more, pieces_one, rest_there, span_high}
use Rattle.report_grammar.proofs.NumbersRead.{in_of_decimal, own}

pub number_of_reads : (most n : ℕ) → n < 2 ^ 64 → n ≤ most → number_of most (decimal n) ≡ Some n
number_of_reads most n small fits =
    ap (λ b. cond b (number_in most (decimal n)) None) (digits_decimal own n small) ∙ in_of_decimal most n small fits

each_cons : {A B : Type 0} (read : A → Option B) (x : A) (xs : List A) (y : B) (ys : List B) → read x ≡ Some y → each read xs ≡ Some ys
    → each read (x ∷ xs) ≡ Some (y ∷ ys)
each_cons read x xs y ys first rest =
    ap (option_and_then (λ z. option_map (λ zs. z ∷ zs) (each read xs))) first ∙ ap (option_map (λ zs. y ∷ zs)) rest

path_each : (n : ℕ) (path : List ℕ) → AreSmall (n ∷ path) → each (number_of 4294967295) (pieces 46 (path_text (n ∷ path))) ≡ Some (n ∷ path)
path_each n [] small =
    ap (each (number_of 4294967295)) (pieces_one 46 (decimal n) (decimal_lacks 46 n (omega (arith, small.0)) (λ least most. omega arith)))
    ∙ each_cons (number_of 4294967295) (decimal n) [] n [] (number_of_reads 4294967295 n (omega (arith, small.0)) (omega (arith, small.0))) refl
path_each n (m ∷ path) small =
    ap (each (number_of 4294967295)) (pieces_more 46 (decimal n) (path_text (m ∷ path)) refl (decimal_lacks 46 n (omega (arith, small.0)) (λ least most. omega arith)))
    ∙ each_cons (number_of 4294967295) (decimal n) (pieces 46 (path_text (m ∷ path))) n (m ∷ path) (number_of_reads 4294967295 n (omega (arith, small.0)) (omega (arith, small.0))) (path_each m path small.1)

pub path_reads : (path : List ℕ) → IsPath path → path_of (path_text path) ≡ Some path
unfolding path_of
path_reads [] is = absurd (omega (arith, is.some))
path_reads (n ∷ path) is = path_each n path is.each

bytes_of_id : (n : ℕ) → IsBytes (to_be_bytes w64 n)
bytes_of_id n zero = omega arith
bytes_of_id n (suc zero) = omega arith
bytes_of_id n (suc (suc zero)) = omega arith
bytes_of_id n (suc (suc (suc zero))) = omega arith
bytes_of_id n (suc (suc (suc (suc zero)))) = omega arith
bytes_of_id n (suc (suc (suc (suc (suc zero))))) = omega arith
bytes_of_id n (suc (suc (suc (suc (suc (suc zero)))))) = omega arith
bytes_of_id n (suc (suc (suc (suc (suc (suc (suc zero))))))) = omega arith
bytes_of_id n (suc (suc (suc (suc (suc (suc (suc (suc i)))))))) = omega arith

pub id_reads : (id : ℕ) → id < 2 ^ 64 → id_of (hex_text 16 id) ≡ Some id
unfolding id_of
id_reads id small =
    ap (λ text. option_map (from_be_bytes w64) (result_ok (decode_sized text 8))) (sym (digits_of_bytes id))
    ∙ ap (λ r. option_map (from_be_bytes w64) (result_ok r)) (decode_sized-encode_lower (to_be_bytes w64 id) 8 refl (bytes_of_id id))
    ∙ ap Some (from_be_bytes-to_be_bytes_8 id small)

edge_reads : (edge : EdgeText) → IsEdge edge → edge_of (edge_text edge) ≡ Some edge
unfolding edge_of
edge_reads edge is =
    let text : List ℕ = path_text edge.path in
    let digits : List ℕ = hex_text 16 edge.id in
    let lacks : Lacks 58 text = path_lacks_colon edge.path is.path.each in
    let front : front_of 58 (text ++ 58 ∷ digits) ≡ text = front_there 58 text digits refl lacks in
    ap (option_and_then (λ ds. option_and_then (λ id. edge_with (path_of (front_of 58 (text ++ 58 ∷ digits))) id) (id_of ds))) (rest_there 58 text digits refl lacks)
    ∙ ap (option_and_then (λ id. edge_with (path_of (front_of 58 (text ++ 58 ∷ digits))) id)) (id_reads edge.id is.id)
    ∙ ap (λ t. edge_with (path_of t) edge.id) front
    ∙ ap (λ p. edge_with p edge.id) (path_reads edge.path is.path)

edges_each : (edge : EdgeText) (edges : List EdgeText) → AllByRecursion IsEdge (edge ∷ edges) → each edge_of (pieces 32 (edges_text (edge ∷ edges))) ≡ Some (edge ∷ edges)
edges_each edge [] are =
    ap (each edge_of) (pieces_one 32 (edge_text edge) (high_lacks 32 (omega arith) (edge_text edge) (edge_high edge are.0)))
    ∙ each_cons edge_of (edge_text edge) [] edge [] (edge_reads edge are.0) refl
edges_each edge (next ∷ edges) are =
    ap (each edge_of) (pieces_more 32 (edge_text edge) (edges_text (next ∷ edges)) refl (high_lacks 32 (omega arith) (edge_text edge) (edge_high edge are.0)))
    ∙ each_cons edge_of (edge_text edge) (pieces 32 (edges_text (next ∷ edges))) edge (next ∷ edges) (edge_reads edge are.0) (edges_each next edges are.1)

pub edges_read : (edges : List EdgeText) → 0 < length edges → AllByRecursion IsEdge edges → edges_of (edges_text edges) ≡ Some edges
unfolding edges_of
edges_read [] some are = absurd (omega arith)
edges_read (edge ∷ edges) some are = edges_each edge edges are

wide_number_reads : (n : ℕ) → n < 2 ^ 64 → wide_number_of (decimal n) ≡ Some n
wide_number_reads n small = number_of_reads 18446744073709551615 n small (omega arith)

span_reads : (span : Span) → IsSpan span → span_of (span_text span) ≡ Some span
unfolding span_of
span_reads span is =
    let text : List ℕ = decimal span.first in
    let digits : List ℕ = decimal span.last in
    let lacks : Lacks 45 text = decimal_lacks 45 span.first (omega (arith, is.first)) (λ least most. omega arith) in
    ap (option_and_then (λ ds. option_and_then (λ last. span_with (wide_number_of (front_of 45 (text ++ 45 ∷ digits))) last) (wide_number_of ds))) (rest_there 45 text digits refl lacks)
    ∙ ap (option_and_then (λ last. span_with (wide_number_of (front_of 45 (text ++ 45 ∷ digits))) last)) (wide_number_reads span.last is.last)
    ∙ ap (λ t. span_with (wide_number_of t) span.last) (front_there 45 text digits refl lacks)
    ∙ ap (λ first. span_with first span.last) (wide_number_reads span.first is.first)

spans_each : (span : Span) (spans : List Span) → AllByRecursion IsSpan (span ∷ spans) → each span_of (pieces 44 (spans_text (span ∷ spans))) ≡ Some (span ∷ spans)
spans_each span [] are =
    ap (each span_of) (pieces_one 44 (span_text span) (high_lacks 44 (omega arith) (span_text span) (span_high span are.0)))
    ∙ each_cons span_of (span_text span) [] span [] (span_reads span are.0) refl
spans_each span (next ∷ spans) are =
    ap (each span_of) (pieces_more 44 (span_text span) (spans_text (next ∷ spans)) refl (high_lacks 44 (omega arith) (span_text span) (span_high span are.0)))
    ∙ each_cons span_of (span_text span) (pieces 44 (spans_text (next ∷ spans))) span (next ∷ spans) (span_reads span are.0) (spans_each next spans are.1)

pub spans_read : (spans : List Span) → AreSpans spans → spans_of (spans_text spans) ≡ Some spans
unfolding spans_of
spans_read [] are = absurd (omega (arith, are.some))
spans_read (span ∷ spans) are = spans_each span spans are.each

pub root_of_reads : (root : Root) → IsRoot root → root_of (root_text root) ≡ Some root
unfolding root_of
root_of_reads root is =
    let text : List ℕ = decimal root.txid in
    let digits : List ℕ = decimal root.attempt in
    let lacks : Lacks 46 text = decimal_lacks 46 root.txid (omega (arith, is.txid)) (λ least most. omega arith) in
    let made : ℕ → Option Root = λ attempt. root_with (wide_number_of (front_of 46 (text ++ 46 ∷ digits))) attempt in
    ap (option_and_then (λ ds. option_and_then made (number_of 4294967295 ds))) (rest_there 46 text digits refl lacks)
    ∙ ap (option_and_then made) (number_of_reads 4294967295 root.attempt (omega (arith, is.attempt)) (omega (arith, is.attempt)))
    ∙ ap (λ t. root_with (wide_number_of t) root.attempt) (front_there 46 text digits refl lacks)
    ∙ ap (λ txid. root_with txid root.attempt) (wide_number_reads root.txid is.txid)
